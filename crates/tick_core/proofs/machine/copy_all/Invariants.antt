use Rattle.std.proofs.Common.{◌≡◌, take}
use Rattle.tick_core.proofs.machine.copy_all.Given as goal

abbrev pub invariant-loop-access : goal.invariant-loop-access
invariant-loop-access l = l.copies ≡ take l.access-index l.accesses
