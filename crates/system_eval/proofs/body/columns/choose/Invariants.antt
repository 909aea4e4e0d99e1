use Rattle.std.proofs.Common.{◌≡◌, ℕ, ◌<◌, ◌≤◌, length}
use Rattle.row_lang.specs.Arithmetic.{choice}
use Rattle.system_eval.specs.Stacks.{int_at}
use Rattle.system_eval.proofs.body.columns.choose.Given as goal

abbrev pub invariant-loop-lane : goal.invariant-loop-lane
invariant-loop-lane l = record {
  long : length l.test ≡ 64;
  done : (k : ℕ) → k < l.lane → int_at l.test k ≡ choice (int_at l.initial.test k) (int_at l.chosen k) (int_at l.otherwise k);
  left : (k : ℕ) → l.lane ≤ k → int_at l.test k ≡ int_at l.initial.test k;
}
