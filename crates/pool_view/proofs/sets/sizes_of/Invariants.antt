use Rattle.std.proofs.Common.{◌≡◌, map, length, take}
use Rattle.pool_view.specs.HeldSets.{lists_of}
use Rattle.pool_view.proofs.sets.sizes_of.Given as goal

abbrev pub invariant-loop-set : goal.invariant-loop-set
invariant-loop-set l = l.sizes.items ≡ map length (lists_of (take l.set-index l.sets))
