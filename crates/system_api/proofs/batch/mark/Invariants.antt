use Rattle.std.proofs.Common.{◌≡◌, ℕ, ◌<◌, ◌+◌, length}
use Rattle.std.specs.Prelude.{nat_lt}
use Rattle.system_api.specs.Batches.{lanes, is_marked}
use Rattle.system_api.proofs.batch.mark.Given as goal

abbrev pub invariant-loop-lane : goal.invariant-loop-lane
invariant-loop-lane l = (length l.marks ≡ lanes) × ((k : ℕ) → k < l.lane → is_marked l.marks k ≡ nat_lt (l.from + k) l.len)
