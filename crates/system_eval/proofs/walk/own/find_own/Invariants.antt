use Rattle.std.proofs.Common.{◌≡◌, ℕ, ◌<◌, ◌&&◌, [], length, take, slice_index_or}
use Rattle.std.specs.List.{list_all}
use Rattle.system_api.specs.Batches.{lanes, entity_at, is_marked}
use Rattle.system_api.specs.Registers.{pool_at}
use Rattle.system_eval.specs.Finding.{AreLocated, AreLoaded}
use Rattle.system_eval.specs.Walks.{has_row, own_lent}
use Rattle.system_eval.proofs.walk.own.find_own.Given as goal

abbrev pub invariant-loop-at : goal.invariant-loop-at
invariant-loop-at l = record {
  many_places : length l.places ≡ length l.initial.places;
  many_columns : length l.columns ≡ length l.initial.columns;
  marked : (lane : ℕ) → lane < lanes → is_marked l.marks lane ≡ (is_marked l.initial.marks lane && list_all (has_row (entity_at l.entities lane)) (take l.at (own_lent l.reads l.lent)));
  located : (k : ℕ) → k < l.at → AreLocated l.marks l.entities (pool_at (own_lent l.reads l.lent) k).storage (slice_index_or l.places k []);
  loaded : (k : ℕ) → k < l.at → AreLoaded l.marks l.entities (pool_at (own_lent l.reads l.lent) k).storage (slice_index_or l.columns k []);
}
