-- What a walk over entities does to lent pools and to a buffer, told by the pools themselves. No public clause of the crate cites this file.
use Rattle.std.specs.Prelude.{◌≡◌, ◌≢◌, ℕ, ◌+◌, ◌≤◌, ◌<◌, Bool, not, ◌&&◌, List, ◌++◌, map, length, take, drop, Some, unwrap_or, IsTrue}
use Rattle.std.specs.List.{list_all, list_any}
use Rattle.entity_id.specs.declared.entity.Entity.{Entity}
use Rattle.entity_id.specs.declared.entity.Profile.{Profile}
use Rattle.entity_id.specs.FiniteMap as entries
use Rattle.world_model.specs.declared.access.Access.{Access}
use Rattle.world_model.specs.declared.component.Row.{Row}
use Rattle.world_model.specs.Components.{zero_row}
use Rattle.row_lang.specs.Bodies.{Done, body_done}
use Rattle.row_lang.specs.Systems.{System}
use Rattle.row_lang.specs.Values.{Setting, own_row}
use Rattle.system_api.specs.declared.lent.LentPool.{LentPool}
use Rattle.system_api.specs.Batches.{entity_at}
use Rattle.system_api.specs.Emissions.{Emission}
use Rattle.system_api.specs.Registers.{Register, pool_at, ChangesRows}
use Rattle.system_eval.specs.Lanes.{looked_at, given_to, beside}

-- a system that runs: in which profile, and at which tick number
pub record Task : Type 0 where
  pub profile : Profile
  pub system : System
  pub tick : ℕ

-- ---- lent pools

-- the rows of a lent pool, as its component's map
abbrev pub rows_in : LentPool → List (Entity × Row)
rows_in pool = entries.map_of pool.storage.pairs

-- whether an entity has a row in a pool
abbrev pub has_row : Entity → LentPool → Bool
has_row entity pool = entries.contains (rows_in pool) entity

-- an entity's row in a pool, and zeros where it has none
abbrev pub row_in : Entity → LentPool → Row
row_in entity pool = unwrap_or (entries.get (rows_in pool) entity) zero_row

-- the pools of which a system has rows of its own entities: so many that are read, and those that are written
abbrev pub own_lent : ℕ → Register → List LentPool
own_lent count register = take count register.reads ++ register.writes

-- the own pool at a place
abbrev pub own_pool_at : ℕ → Register → ℕ → LentPool
own_pool_at count register at = pool_at (own_lent count register) at

-- whether an entity has a row in each own pool
abbrev pub has_all_own : Entity → ℕ → Register → Bool
has_all_own entity count register = list_all (has_row entity) (own_lent count register)

-- the pools that a system's entities are not in: those behind so many others that are lent for reading
abbrev pub excluded_lent : ℕ → Register → List LentPool
excluded_lent count register = drop count register.reads

-- whether an entity has a row in one of the excluded pools
abbrev pub is_excluded : Entity → ℕ → Register → Bool
is_excluded entity count register = list_any (has_row entity) (excluded_lent count register)

-- how many pools are lent for reading before those that are excluded
abbrev pub excluded_from : Access → ℕ
excluded_from access = length access.read + length access.look

-- the entities that a walk comes to: the first ones, so many of them, of the own pool at a place, in packed order
abbrev pub walked_in : ℕ → Register → ℕ → ℕ → List Entity
walked_in count register at end = take end (entries.keys (own_pool_at count register at).storage.pairs)

-- whether an entity is one of a system's, by these pools
abbrev pub is_member_in : Access → Register → Entity → Bool
is_member_in access register entity =
    has_all_own entity (length access.read) register && not (is_excluded entity (excluded_from access) register)

-- ---- what a body does

-- what a body finds for an entity
abbrev pub setting_in : Task → Register → Entity → Setting
setting_in task register entity =
    record { profile = task.profile; tick = task.tick; entity = entity; looked_at = looked_at task.system.access register.reads }

-- the own rows of an entity, each behind its component's number
abbrev pub rows_of_own : Access → Register → Entity → List (ℕ × Row)
rows_of_own access register entity = map (λ pool. (pool.number, row_in entity pool)) (own_lent (length access.read) register)

-- what a body does for an entity
abbrev pub done_in : Task → Register → Entity → Done
done_in task register entity =
    body_done (setting_in task register entity) (rows_of_own task.system.access register entity) task.system.statements

-- ---- walks

-- a place between two of a list whose identifier is one of the system's entities
pub record IsTaken (task : Task) (list : List Entity) (from to : ℕ) (register : Register) (place : ℕ) : Type 0 where
  pub after : from ≤ place
  pub before : place < to
  pub within : place < length list
  pub member : IsTrue (is_member_in task.system.access register (entity_at list place))

-- each entity between two places of a list has the rows that the body leaves, and no other row changes
pub record Rewrites (task : Task) (list : List Entity) (from to : ℕ) (old new : Register) : Type 0 where
  pub pools : ChangesRows old new
  pub taken : (at place : ℕ) → at < length old.writes → IsTaken task list from to old place →
      entries.get (rows_in (pool_at new.writes at)) (entity_at list place)
      ≡ Some (own_row (done_in task old (entity_at list place)).rows (pool_at old.writes at).number)
  pub others : (at : ℕ) (entity : Entity) → ((place : ℕ) → IsTaken task list from to old place → entity_at list place ≢ entity) →
      entries.get (rows_in (pool_at new.writes at)) entity ≡ entries.get (rows_in (pool_at old.writes at)) entity

-- for each entity between two places of a list the orders of the body are given, and no other
pub record Gives (task : Task) (list : List Entity) (from to : ℕ) (register : Register) (old new : List Emission) : Type 0 where
  pub taken : (place : ℕ) → IsTaken task list from to register place →
      given_to (entity_at list place).index new
      ≡ given_to (entity_at list place).index old
      ++ beside (entity_at list place).index (done_in task register (entity_at list place)).orders
  pub others : (index : ℕ) → ((place : ℕ) → IsTaken task list from to register place → (entity_at list place).index ≢ index) →
      given_to index new ≡ given_to index old

-- no index stands at two places of a list
abbrev pub AreOnce : List Entity → Type 0
AreOnce list = (a b : ℕ) → a < length list → b < length list → (entity_at list a).index ≡ (entity_at list b).index → a ≡ b
