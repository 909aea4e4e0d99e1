-- Room that a registry has for orders.
use Rattle.std.specs.Prelude.{ℕ, ◌+◌, ◌≤◌, ◌<◌, List, [], length, min, count_by, Option, slice_index, slice_index_or}
use Rattle.entity_id.specs.declared.entity.Entity.{Entity}
use Rattle.signal_sink.specs.Hearings.{Hearing, HaveSpare}
use Rattle.world_model.specs.declared.deferred.Deferred.{Deferred}
use Rattle.world_model.specs.declared.deferred.Needs.{Needs}
use Rattle.world_model.specs.Groups.{packed_at}
use Rattle.world_model.specs.Orders.{is_add, is_update, is_spawn, Covers}
use Rattle.registry.specs.Held.{Held, PoolRoom, no_room}

-- ---- one pool

-- how many rows a pool has
abbrev pub rows_in : List (List Entity) → ℕ → ℕ
rows_in packed pool = length (packed_at packed pool)

-- the room of a pool
abbrev pub room_in : List PoolRoom → ℕ → PoolRoom
room_in rooms pool = slice_index_or rooms pool no_room

-- the listeners of a pool
abbrev pub hearings_in : List (List (Option Hearing)) → ℕ → List (Option Hearing)
hearings_in hearings pool = slice_index_or hearings pool []

-- a pool and its listeners have room for so many rows added and so many changed, of identifiers below so many indices; and the
-- listeners that hear of rows removed have room for the rows that are there and for those that come
pub record HasRoomInPool (held : Held) (reach adds updates pool : ℕ) : Type 0 where
  pub spare : adds ≤ (room_in held.rooms pool).spare
  pub indices : 0 < adds → reach ≤ (room_in held.rooms pool).index_bound
  pub construct : HaveSpare adds (hearings_in held.construct pool)
  pub update : HaveSpare updates (hearings_in held.update pool)
  pub destroy : HaveSpare (rows_in held.packed pool + adds) (hearings_in held.destroy pool)

-- ---- all pools

-- how many slots there are at most once so many identifiers more were made: the limit caps them
abbrev pub slots_after : Held → ℕ → ℕ
slots_after held spawns = min held.limit (length held.world.slots + spawns)

-- there is room for so many rows added to each pool and changed in it, and so many identifiers made
pub record HasRoom (adds updates : ℕ → ℕ) (spawns : ℕ) (held : Held) : Type 0 where
  pub slots : slots_after held spawns ≤ length held.world.slots + held.slots_spare
  pub pools : (pool : ℕ) → pool < length held.world.decls → HasRoomInPool held (slots_after held spawns) (adds pool) (updates pool) pool

-- there is room for what these needs say
abbrev pub HasRoomFor : Needs → Held → Type 0
HasRoomFor needs held = HasRoom (slice_index needs.adds) (slice_index needs.updates) needs.spawns held

-- ---- what is left

-- needs that are no more than these less what the orders count
pub record AreLeft (needs left : Needs) (orders : List Deferred) : Type 0 where
  pub adds : (pool : ℕ) → slice_index left.adds pool + count_by (is_add pool) orders ≤ slice_index needs.adds pool
  pub updates : (pool : ℕ) → slice_index left.updates pool + count_by (is_update pool) orders ≤ slice_index needs.updates pool
  pub spawns : left.spawns + count_by is_spawn orders ≤ needs.spawns

-- ---- orders

-- needs cover the orders, and there is room for them
pub record HasRoomForOrders (orders : List Deferred) (held : Held) : Type 0 where
  pub needs : Needs
  pub covers : Covers (length held.world.decls) needs orders
  pub room : HasRoomFor needs held
