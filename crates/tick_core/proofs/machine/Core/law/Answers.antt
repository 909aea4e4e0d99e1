use Rattle.std.proofs.Common.{subst}
use Rattle.tick_core.specs.Facts.{HasFacts}
use Rattle.tick_core.proofs.machine.Core.law.Goals as goal

pub returns : goal.returns
returns c = subst HasFacts c.self.view_is c.self.invariant.facts
