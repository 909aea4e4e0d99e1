-- What a call takes of the room of a registry, at most. No public clause cites this file.
use Rattle.std.specs.Prelude.{◌≡◌, ◌==◌, ℕ, ◌+◌, ◌≤◌, ◌<◌, false, List, if◌then◌else◌, length, count_by, Option}
use Rattle.entity_id.specs.declared.entity.Entity.{Entity}
use Rattle.entity_id.specs.FiniteMap as entries
use Rattle.signal_sink.specs.Hearings.{Hearing, HaveSpare}
use Rattle.storage.specs.Stored.{Stored}
use Rattle.world_model.specs.declared.component.Row.{Row}
use Rattle.world_model.specs.declared.deferred.Deferred.{Deferred}
use Rattle.world_model.specs.Orders.{is_add, is_update, is_spawn}
use Rattle.registry.specs.Held.{Held, PoolRoom}
use Rattle.registry.specs.Rooms.{rows_in, room_in, hearings_in, HasRoom}

-- none in any pool
abbrev pub nowhere : ℕ → ℕ
nowhere pool = 0

-- one, in this pool
abbrev pub once_in : ℕ → ℕ → ℕ
once_in pool other = if pool == other then 1 else 0

-- the listeners of each pool have room for all but so many of the events that they had room for
abbrev pub SpendsEvents : (ℕ → ℕ) → List (List (Option Hearing)) → List (List (Option Hearing)) → Type 0
SpendsEvents events old new = (pool n : ℕ) → HaveSpare (n + events pool) (hearings_in old pool) → HaveSpare n (hearings_in new pool)

-- each pool has all but so much of its room, and its listeners that hear of rows removed, beyond the rows that are there
pub record SpendsRows (adds : ℕ → ℕ) (rooms left : List PoolRoom) (packed after : List (List Entity)) (old new : List (List (Option Hearing))) : Type 0 where
  pub spare : (pool : ℕ) → (room_in rooms pool).spare ≤ (room_in left pool).spare + adds pool
  pub bound : (pool : ℕ) → (room_in rooms pool).index_bound ≤ (room_in left pool).index_bound
  pub destroy : (pool n : ℕ) → HaveSpare (n + (rows_in packed pool + adds pool)) (hearings_in old pool) → HaveSpare (n + rows_in after pool) (hearings_in new pool)

-- the room of a registry, less that of so many rows added and changed in each pool; a new slot takes one of those that are spare
pub record Spends (adds updates : ℕ → ℕ) (old new : Held) : Type 0 where
  pub slots : old.slots_spare + length old.world.slots ≤ new.slots_spare + length new.world.slots
  pub rows : SpendsRows adds old.rooms new.rooms old.packed new.packed old.destroy new.destroy
  pub construct : SpendsEvents adds old.construct new.construct
  pub update : SpendsEvents updates old.update new.update

-- ---- room for one row

-- an identifier may be added to a pool, and its listeners hear of it, without more room
pub record IsReadyFor (entity : Entity) (stored : Stored Row) (on_construct on_destroy : List (Option Hearing)) : Type 0 where
  pub fresh : entries.contains (entries.map_of stored.pairs) entity ≡ false → entries.has_index stored.pairs entity.index ≡ false
  pub spare : 0 < stored.spare
  pub bound : entity.index < stored.index_bound
  pub construct : HaveSpare 1 on_construct
  pub destroy : HaveSpare (length stored.pairs + 1) on_destroy

-- a pool and its listeners have room for so many rows added and so many changed, of identifiers below so many indices
pub record IsRoomy (reach adds updates : ℕ) (stored : Stored Row) (on_construct on_update on_destroy : List (Option Hearing)) : Type 0 where
  pub spare : adds ≤ stored.spare
  pub indices : 0 < adds → reach ≤ stored.index_bound
  pub construct : HaveSpare adds on_construct
  pub update : HaveSpare updates on_update
  pub destroy : HaveSpare (length stored.pairs + adds) on_destroy

-- ---- one order

-- how many rows an order may add to a pool
abbrev pub adds_of : Deferred → ℕ → ℕ
adds_of order pool = if is_add pool order then 1 else 0

-- how many rows of a pool it may change
abbrev pub updates_of : Deferred → ℕ → ℕ
updates_of order pool = if is_update pool order then 1 else 0

-- how many identifiers it makes at most
abbrev pub spawns_of : Deferred → ℕ
spawns_of order = if is_spawn order then 1 else 0

-- there is room for so much, and for what the orders count besides
abbrev pub HasRoomAlso : (ℕ → ℕ) → (ℕ → ℕ) → ℕ → List Deferred → Held → Type 0
HasRoomAlso adds updates spawns orders held =
    HasRoom (λ pool. adds pool + count_by (is_add pool) orders) (λ pool. updates pool + count_by (is_update pool) orders) (spawns + count_by is_spawn orders) held
