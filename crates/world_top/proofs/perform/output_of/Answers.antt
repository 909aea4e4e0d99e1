use Rattle.std.proofs.Common.{IfErr, sym, subst}
use Rattle.world_top.specs.declared.verb.Verb.{Verb}
use Rattle.world_top.specs.Output.{IsOutputCause}
use Rattle.world_top.proofs.perform.output_of.Goals as goal

pub returns-in-Run-clause-cause : goal.returns-in-Run-clause-cause
returns-in-Run-clause-cause c =
    subst (λ (verb : Verb). IfErr c.run.result (IsOutputCause verb c.args.input.items)) (sym c.in-Run.is) (c.run.ensures.cause c.in-Run.workers)
