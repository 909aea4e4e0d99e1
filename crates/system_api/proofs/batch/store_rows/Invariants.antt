use Rattle.std.proofs.Common.{◌≡◌, ℕ, ◌<◌, ◌≤◌, ◌+◌, length, if◌then◌else◌}
use Rattle.system_api.specs.Batches.{row_at, is_marked}
use Rattle.system_api.proofs.batch.store_rows.Given as goal

abbrev pub invariant-loop-lane : goal.invariant-loop-lane
invariant-loop-lane l = record {
  long : length l.rows ≡ length l.initial.rows;
  done : (k : ℕ) → k < l.lane → l.from + k < length l.rows → row_at l.rows (l.from + k) ≡ (if is_marked l.marks k then row_at l.column k else row_at l.initial.rows (l.from + k));
  before : (k : ℕ) → k < l.from → row_at l.rows k ≡ row_at l.initial.rows k;
  behind : (k : ℕ) → l.from + l.lane ≤ k → row_at l.rows k ≡ row_at l.initial.rows k;
}
