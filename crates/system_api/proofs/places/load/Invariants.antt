use Rattle.std.proofs.Common.{◌≡◌, ℕ, ◌<◌, length}
use Rattle.system_api.specs.Batches.{lanes, row_at, place_at}
use Rattle.system_api.proofs.places.load.Given as goal

abbrev pub invariant-loop-lane : goal.invariant-loop-lane
invariant-loop-lane l = (length l.column ≡ lanes) × ((k : ℕ) → k < l.lane → row_at l.column k ≡ row_at l.rows (place_at l.places k))
