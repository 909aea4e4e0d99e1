use Rattle.std.proofs.Common.{◌≡◌, ℕ, ◌<◌, ◌≤◌, length}
use Rattle.entity_id.specs.Fields.{entity_in}
use Rattle.entity_id.specs.FiniteMap as entries
use Rattle.row_lang.specs.Arithmetic.{truth}
use Rattle.system_eval.specs.Stacks.{int_at}
use Rattle.system_eval.proofs.body.looking.has_each.Given as goal

abbrev pub invariant-loop-lane : goal.invariant-loop-lane
invariant-loop-lane l = record {
  long : length l.column ≡ 64;
  done : (k : ℕ) → k < l.lane → int_at l.column k ≡ truth (entries.contains (entries.map_of l.storage.pairs) (entity_in l.profile (int_at l.initial.column k)));
  left : (k : ℕ) → l.lane ≤ k → int_at l.column k ≡ int_at l.initial.column k;
}
