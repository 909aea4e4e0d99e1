use Rattle.std.proofs.Common.{◌≡◌, map, take}
use Rattle.tick_core.specs.Layout.{at_zero}
use Rattle.tick_core.specs.States.{written_pools}
use Rattle.tick_core.proofs.versions.first_versions.Given as goal

abbrev pub invariant-loop-access : goal.invariant-loop-access
invariant-loop-access l = l.versions.items ≡ map at_zero (written_pools (take l.access-index l.accesses))
