use Rattle.std.proofs.Common.{◌≡◌, ◌++◌, map, take}
use Rattle.tick_core.specs.Layout.{at_zero}
use Rattle.tick_core.proofs.versions.push_zeros.Given as goal

abbrev pub invariant-loop-pool : goal.invariant-loop-pool
invariant-loop-pool l = l.versions.items ≡ l.fn.versions.items ++ map at_zero (take l.pool-index l.pools)
