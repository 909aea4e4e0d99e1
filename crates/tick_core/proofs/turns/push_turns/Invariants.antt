use Rattle.std.proofs.Common.{◌≡◌, ◌++◌, map, take}
use Rattle.tick_core.specs.Layout.{fresh}
use Rattle.tick_core.proofs.turns.push_turns.Given as goal

abbrev pub invariant-loop-pool : goal.invariant-loop-pool
invariant-loop-pool l = l.turns.items ≡ l.fn.turns.items ++ map fresh (take l.pool-index l.pools)
