use Rattle.std.proofs.Common.{◌≡◌, ℕ, ◌<◌, ◌+◌, length}
use Rattle.system_api.specs.Batches.{lanes, entity_at}
use Rattle.system_api.proofs.batch.load_entities.Given as goal

abbrev pub invariant-loop-lane : goal.invariant-loop-lane
invariant-loop-lane l = (length l.entities ≡ lanes) × ((k : ℕ) → k < l.lane → entity_at l.entities k ≡ entity_at l.list (l.from + k))
