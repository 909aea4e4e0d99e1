use Rattle.std.proofs.Common.{take}
use Rattle.registry.specs.Held.{packed_members}
use Rattle.registry_uses.specs.declared.walking.TheConstants.{MOVING}
use Rattle.registry_uses.proofs.GroupedLemmas.{AreWalked}
use Rattle.registry_uses.proofs.walking.advance_members.Given as goal

abbrev pub invariant-loop-place : goal.invariant-loop-place
invariant-loop-place g l = AreWalked l.fn.registry l.registry (take l.place (packed_members l.fn.registry MOVING))
