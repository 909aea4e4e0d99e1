use Rattle.std.proofs.Common.{◌≡◌, ℕ, ◌<◌, ◌≤◌, true, length, if◌then◌else◌}
use Rattle.row_lang.specs.Arithmetic.{is_zero}
use Rattle.system_api.specs.Batches.{is_marked}
use Rattle.system_eval.specs.Stacks.{int_at}
use Rattle.system_eval.proofs.body.ordering.mark_spawned.Given as goal

abbrev pub invariant-loop-lane : goal.invariant-loop-lane
invariant-loop-lane l = record {
  long : length l.spawned ≡ 64;
  done : (k : ℕ) → k < l.lane → is_marked l.spawned k ≡ (if is_zero (int_at l.test k) then is_marked l.initial.spawned k else true);
  left : (k : ℕ) → l.lane ≤ k → is_marked l.spawned k ≡ is_marked l.initial.spawned k;
}
