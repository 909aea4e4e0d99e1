use Rattle.std.proofs.Common.{◌≡◌, ℕ, ◌<◌, ◌≤◌, ◌&&◌, not, length}
use Rattle.entity_id.specs.FiniteMap as entries
use Rattle.system_api.specs.Batches.{lanes, entity_at, is_marked}
use Rattle.system_api.proofs.batch.exclude.Given as goal

abbrev pub invariant-loop-lane : goal.invariant-loop-lane
invariant-loop-lane l = record {
  wide : length l.marks ≡ lanes;
  marks : (k : ℕ) → k < l.lane → is_marked l.marks k ≡ (is_marked l.initial.marks k && not (entries.contains (entries.map_of l.storage.pairs) (entity_at l.entities k)));
  left : (k : ℕ) → l.lane ≤ k → is_marked l.marks k ≡ is_marked l.initial.marks k;
}
