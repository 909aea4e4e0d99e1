use Rattle.std.proofs.Common.{◌≡◌, ℕ, ◌<◌, ◌≤◌, length}
use Rattle.system_eval.specs.Stacks.{int_at}
use Rattle.system_eval.proofs.body.columns.each.Given as goal

abbrev pub invariant-loop-lane : goal.invariant-loop-lane
invariant-loop-lane g l = record {
  long : length l.left ≡ 64;
  done : (k : ℕ) → k < l.lane → goal.F-post g l.f (int_at l.initial.left k) (int_at l.right k) (int_at l.left k);
  left : (k : ℕ) → l.lane ≤ k → int_at l.left k ≡ int_at l.initial.left k;
}
