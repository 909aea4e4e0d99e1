use Rattle.std.proofs.Common.{◌≡◌, ℕ, ◌<◌, ◌≤◌, length, if◌then◌else◌}
use Rattle.world_model.specs.Components.{with_field}
use Rattle.row_lang.specs.Arithmetic.{is_zero}
use Rattle.system_api.specs.Batches.{row_at}
use Rattle.system_eval.specs.Stacks.{int_at}
use Rattle.system_eval.proofs.body.owning.store_field.Given as goal

abbrev pub invariant-loop-lane : goal.invariant-loop-lane
invariant-loop-lane l = record {
  long : length l.rows ≡ 64;
  done : (k : ℕ) → k < l.lane → row_at l.rows k ≡ (if is_zero (int_at l.test k) then row_at l.initial.rows k else with_field (row_at l.initial.rows k) l.field (int_at l.values k));
  left : (k : ℕ) → l.lane ≤ k → row_at l.rows k ≡ row_at l.initial.rows k;
}
