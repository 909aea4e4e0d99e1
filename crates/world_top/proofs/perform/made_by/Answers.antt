use Rattle.std.proofs.Common.{IfErr, sym, subst}
use Rattle.world_top.specs.declared.verb.Verb.{Verb}
use Rattle.world_top.specs.Output.{IsOutputCause}
use Rattle.world_top.proofs.perform.made_by.Goals as goal

pub returns-in-Run-clause-cause : goal.returns-in-Run-clause-cause
returns-in-Run-clause-cause g c =
    subst (λ (verb : Verb). IfErr c.run_by.result (IsOutputCause verb c.args.input.items)) (sym c.in-Run.is) (c.run_by.ensures.cause c.in-Run.workers)
