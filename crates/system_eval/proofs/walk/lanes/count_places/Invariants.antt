use Rattle.std.proofs.Common.{◌≡◌, ℕ, ◌<◌, ◌+◌, ◌^◌, length}
use Rattle.system_api.specs.Batches.{place_at}
use Rattle.system_eval.proofs.walk.lanes.count_places.Given as goal

abbrev pub invariant-loop-lane : goal.invariant-loop-lane
invariant-loop-lane l = record {
  many : length l.places ≡ 64;
  counted : (k : ℕ) → k < l.lane → l.from + k < 2 ^ 32 → place_at l.places k ≡ l.from + k;
}
