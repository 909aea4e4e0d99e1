use Rattle.std.proofs.Common.{◌≡◌, ℕ, List, ◌++◌, length}
use Rattle.entity_slots.specs.Threads.{chain, IsChain}
use Rattle.entity_slots.proofs.identifiers.Identifiers.free_list.Given as goal

abbrev pub invariant-loop-index : goal.invariant-loop-index
invariant-loop-index l = record {
  left : List ℕ;
  parts : chain (length l.self-inside.list.items) l.self-inside.list.items l.self-inside.top ≡ l.free.items ++ left;
  chained : IsChain l.self-inside.list.items l.self-inside.null l.index left;
}

abbrev pub decreases-loop-index : goal.decreases-loop-index
decreases-loop-index l = length (chain (length l.self-inside.list.items) l.self-inside.list.items l.index)
