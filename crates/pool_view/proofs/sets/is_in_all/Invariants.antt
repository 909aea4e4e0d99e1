use Rattle.std.proofs.Common.{◌≡◌, drop}
use Rattle.pool_view.specs.ViewedSets.{is_in_all}
use Rattle.pool_view.specs.HeldSets.{lists_of}
use Rattle.pool_view.proofs.sets.is_in_all.Given as goal

abbrev pub invariant-loop-set : goal.invariant-loop-set
invariant-loop-set l = is_in_all (lists_of (drop l.set-index l.sets)) l.entity ≡ is_in_all (lists_of l.sets) l.entity
