use Rattle.std.proofs.Common.{◌≡◌, ℕ, ◌<◌, ◌≤◌, ◌&&◌, length}
use Rattle.std.specs.Prelude.{unwrap_or}
use Rattle.entity_id.specs.FiniteMap as entries
use Rattle.world_model.specs.Components.{zero_row}
use Rattle.system_api.specs.Batches.{lanes, row_at, entity_at, is_marked}
use Rattle.system_api.proofs.batch.look_up.Given as goal

abbrev pub invariant-loop-lane : goal.invariant-loop-lane
invariant-loop-lane l = record {
  long : length l.column ≡ lanes;
  wide : length l.marks ≡ lanes;
  rows : (k : ℕ) → k < l.lane → row_at l.column k ≡ unwrap_or (entries.get (entries.map_of l.storage.pairs) (entity_at l.entities k)) zero_row;
  marks : (k : ℕ) → k < l.lane → is_marked l.marks k ≡ (is_marked l.initial.marks k && entries.contains (entries.map_of l.storage.pairs) (entity_at l.entities k));
  left : (k : ℕ) → l.lane ≤ k → is_marked l.marks k ≡ is_marked l.initial.marks k;
}
