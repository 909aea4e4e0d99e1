use Rattle.std.proofs.Common.{◌≡◌, ℕ, ◌<◌, length}
use Rattle.system_eval.specs.Stacks.{int_at}
use Rattle.system_eval.proofs.body.columns.fill.Given as goal

abbrev pub invariant-loop-lane : goal.invariant-loop-lane
invariant-loop-lane l = (length l.column ≡ 64) × ((k : ℕ) → k < l.lane → int_at l.column k ≡ l.value)
