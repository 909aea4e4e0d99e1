-- What is found for a batch of entities in lent pools, and what is stored there. No public clause of the crate cites this file.
use Rattle.std.specs.Prelude.{◌≡◌, ◌≢◌, ℕ, ◌+◌, ◌<◌, ◌≤◌, Bool, ◌&&◌, List, [], length, Some, nat_lt, slice_index_or, IsTrue}
use Rattle.entity_id.specs.declared.entity.Entity.{Entity}
use Rattle.entity_id.specs.FiniteMap as entries
use Rattle.entity_id.specs.PackedLists.{place_of}
use Rattle.world_model.specs.declared.access.Access.{Access}
use Rattle.world_model.specs.declared.component.Row.{Row}
use Rattle.storage.specs.Stored.{Stored}
use Rattle.system_api.specs.declared.lent.LentPool.{LentPool}
use Rattle.system_api.specs.Batches.{lanes, row_at, entity_at, place_at, is_marked}
use Rattle.system_api.specs.Registers.{Register, pool_at, ChangesRows}
use Rattle.system_eval.specs.Walks.{rows_in, own_lent, is_member_in}

-- whether the entity of a lane has a row in a storage
abbrev pub has_lane : List Entity → Stored Row → ℕ → Bool
has_lane entities stored lane = entries.contains (entries.map_of stored.pairs) (entity_at entities lane)

-- where the marked entities of a batch stand in a storage
abbrev pub AreLocated : List Bool → List Entity → Stored Row → List ℕ → Type 0
AreLocated marks entities stored places = (lane : ℕ) → lane < lanes → IsTrue (is_marked marks lane) →
    place_of (entries.keys stored.pairs) (entity_at entities lane) ≡ Some (place_at places lane)

-- the rows of the marked entities of a batch in a storage
abbrev pub AreLoaded : List Bool → List Entity → Stored Row → List Row → Type 0
AreLoaded marks entities stored column = (lane : ℕ) → lane < lanes → IsTrue (is_marked marks lane) →
    entries.get (entries.map_of stored.pairs) (entity_at entities lane) ≡ Some (row_at column lane)

-- the marked entities of a batch are those of a storage from a place on
pub record IsFrom (from : ℕ) (marks : List Bool) (entities : List Entity) (stored : Stored Row) : Type 0 where
  pub within : (lane : ℕ) → lane < lanes → IsTrue (is_marked marks lane) → from + lane < length stored.pairs
  pub entities_are : (lane : ℕ) → lane < lanes → IsTrue (is_marked marks lane) → entity_at entities lane ≡ entity_at (entries.keys stored.pairs) (from + lane)

-- places and rows in the first pools of a list, so many of them
pub record AreFoundIn (marks : List Bool) (entities : List Entity) (pools : List LentPool) (count : ℕ) (places : List (List ℕ)) (columns : List (List Row)) : Type 0 where
  pub located : (at : ℕ) → at < count → AreLocated marks entities (pool_at pools at).storage (slice_index_or places at [])
  pub loaded : (at : ℕ) → at < count → AreLoaded marks entities (pool_at pools at).storage (slice_index_or columns at [])

-- a batch of a walk: the entities from a place of a list on, those of the system marked, with their places and rows in each own pool
pub record IsBatch (access : Access) (list : List Entity) (from : ℕ) (register : Register) (entities : List Entity) (marks : List Bool)
    (places : List (List ℕ)) (columns : List (List Row)) : Type 0 where
  pub entities_are : (lane : ℕ) → lane < lanes → from + lane < length list → entity_at entities lane ≡ entity_at list (from + lane)
  pub marks_are : (lane : ℕ) → lane < lanes →
      is_marked marks lane ≡ (nat_lt (from + lane) (length list) && is_member_in access register (entity_at entities lane))
  pub found : AreFoundIn marks entities (own_lent (length access.read) register) (length (own_lent (length access.read) register)) places columns

-- the marked entities of a batch have the rows of these columns in the first written pools, so many of them, and nothing else changes.
-- The columns of written pools stand behind so many others
pub record AreStored (entities : List Entity) (marks : List Bool) (columns : List (List Row)) (reads count : ℕ) (old new : Register) : Type 0 where
  pub pools : ChangesRows old new
  pub here : (at lane : ℕ) → at < count → lane < lanes → IsTrue (is_marked marks lane) →
      entries.get (rows_in (pool_at new.writes at)) (entity_at entities lane) ≡ Some (row_at (slice_index_or columns (reads + at) []) lane)
  pub others : (at : ℕ) (entity : Entity) → ((lane : ℕ) → lane < lanes → IsTrue (is_marked marks lane) → entity_at entities lane ≢ entity) →
      entries.get (rows_in (pool_at new.writes at)) entity ≡ entries.get (rows_in (pool_at old.writes at)) entity
  pub left : (at : ℕ) → count ≤ at → pool_at new.writes at ≡ pool_at old.writes at

-- no two marked lanes have one entity
abbrev pub AreOneEach : List Bool → List Entity → Type 0
AreOneEach marks entities = (a b : ℕ) → a < lanes → b < lanes → IsTrue (is_marked marks a) → IsTrue (is_marked marks b) →
    entity_at entities a ≡ entity_at entities b → a ≡ b

-- where the marked entities of a batch stand in written pools, whose places stand behind so many others
abbrev pub AreLocatedIn : List Entity → List Bool → List (List ℕ) → ℕ → Register → Type 0
AreLocatedIn entities marks places reads register = (at lane : ℕ) → at < length register.writes → lane < lanes → IsTrue (is_marked marks lane) →
    place_of (entries.keys (pool_at register.writes at).storage.pairs) (entity_at entities lane) ≡ Some (place_at (slice_index_or places (reads + at) []) lane)
