use Rattle.std.proofs.Common.{◌≡◌, length, reverse}
use Rattle.std.specs.Prelude.{filter}
use Rattle.pool_view.specs.HeldSets.{is_viewed_beside, lists_of}
use Rattle.pool_view.proofs.walk.ViewIterIterator.next.Given as goal

abbrev pub invariant-loop-last : goal.invariant-loop-last
invariant-loop-last l = record {
  sets : l.self-inside ≡ l.initial.self-inside;
  left : filter (is_viewed_beside (lists_of l.self-inside.before.now) (lists_of l.self-inside.behind.now) (lists_of l.self-inside.excluded.now)) (reverse l.rest) ≡ l.fn.self;
}

abbrev pub decreases-loop-last : goal.decreases-loop-last
decreases-loop-last l = length l.rest
