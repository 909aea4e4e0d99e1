use Rattle.std.proofs.Common.{◌≡◌, ℕ, ◌<◌, length}
use Rattle.entity_id.specs.Fields.{field_of}
use Rattle.system_api.specs.Batches.{entity_at}
use Rattle.system_eval.specs.Stacks.{int_at}
use Rattle.system_eval.proofs.body.columns.load_fields_of.Given as goal

abbrev pub invariant-loop-lane : goal.invariant-loop-lane
invariant-loop-lane l = (length l.column ≡ 64) × ((k : ℕ) → k < l.lane → int_at l.column k ≡ field_of l.profile (entity_at l.entities k))
