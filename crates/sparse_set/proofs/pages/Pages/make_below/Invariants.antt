use Rattle.std.proofs.Common.{ℕ, ◌<◌}
use Rattle.sparse_set.specs.Pages.{IsMade, Keeps}
use Rattle.sparse_set.proofs.pages.Pages.make_below.Given as goal

abbrev pub invariant-loop-number : goal.invariant-loop-number
invariant-loop-number l = record {
  kept : Keeps l.initial.self l.self;
  made : (number : ℕ) → number < l.number → IsMade l.self number;
}
