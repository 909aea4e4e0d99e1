use Rattle.std.proofs.Common.{sym, ◌∙◌, subst}
use Rattle.tick_core.specs.Steps.{CanStep}
use Rattle.tick_core.proofs.FactLemmas.{at_need}
use Rattle.tick_core.proofs.machine.Core.can.Goals as goal

pub returns-in-Take-clause-version : goal.returns-in-Take-clause-version
returns-in-Take-clause-version c = λ can system pool is.
    at_need c.args.self.now c.law.ensures system pool (subst (CanStep c.args.self.now) (sym c.in-Take.is ∙ is) (c.can_take.ensures.0 can))
