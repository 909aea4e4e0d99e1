use Rattle.std.proofs.Common.{◌≡◌, ℕ, ◌-◌, ◌≤◌, ◌^◌, length}
use Rattle.sparse_set.specs.Pages.{page_of}
use Rattle.sparse_set.proofs.pages.Pages.grow.Given as goal

abbrev pub invariant-loop-alloc : goal.invariant-loop-alloc
invariant-loop-alloc l = record {
  pages : (number : ℕ) → page_of l.self-inside.list.items number ≡ page_of l.initial.self-inside.list.items number;
  few : length l.self-inside.list.items ≤ 2 ^ 20;
  longer : length l.initial.self-inside.list.items ≤ length l.self-inside.list.items;
}

abbrev pub decreases-loop-alloc : goal.decreases-loop-alloc
decreases-loop-alloc l = l.len - length l.self-inside.list.items
