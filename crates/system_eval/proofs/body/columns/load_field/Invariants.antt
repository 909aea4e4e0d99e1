use Rattle.std.proofs.Common.{◌≡◌, ℕ, ◌<◌, length}
use Rattle.world_model.specs.Components.{value_at}
use Rattle.system_api.specs.Batches.{row_at}
use Rattle.system_eval.specs.Stacks.{int_at}
use Rattle.system_eval.proofs.body.columns.load_field.Given as goal

abbrev pub invariant-loop-lane : goal.invariant-loop-lane
invariant-loop-lane l = (length l.column ≡ 64) × ((k : ℕ) → k < l.lane → int_at l.column k ≡ value_at (row_at l.rows k) l.field)
