use Rattle.std.proofs.Common.{◌≡◌, ℕ, ◌<◌, List, [], ◌∷◌, ◌++◌, length}
use Rattle.std.specs.Prelude.{MatchOption}
use Rattle.entity_slots.specs.Threads.{chain, IsChain}
use Rattle.entity_slots.proofs.CountLemmas.{times}
use Rattle.entity_slots.proofs.identifiers.Identifiers.index_before.Given as goal

abbrev pub invariant-loop-at : goal.invariant-loop-at
invariant-loop-at l = record {
  passed : List ℕ;
  left : List ℕ;
  parts : chain (length l.self-inside.list.items) l.self-inside.list.items l.self-inside.top ≡ passed ++ left;
  chained : IsChain l.self-inside.list.items l.self-inside.null l.at left;
  here : 0 < times left l.index;
  last : MatchOption l.before (passed ≡ []) (λ first. (front : List ℕ) × (passed ≡ front ++ first ∷ []));
}

abbrev pub decreases-loop-at : goal.decreases-loop-at
decreases-loop-at l = length (chain (length l.self-inside.list.items) l.self-inside.list.items l.at)
