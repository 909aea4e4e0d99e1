-- How a registry is laid out. Public clauses cite `maps_of`, `rooms_of` and `HaveRoom` of this file, and nothing else.
use Rattle.std.specs.Prelude.{◌≡◌, ℕ, List, [], map, length, replicate, Option, Some, slice_get}
use Rattle.entity_id.specs.declared.entity.Entity.{Entity}
use Rattle.entity_id.specs.FiniteMap as entries
use Rattle.entity_id.specs.declared.entity.Profile.{Profile}
use Rattle.group_engine.specs.Engine.{Groups}
use Rattle.group_engine.specs.Grouped.{packed_of, AreGrouped}
use Rattle.entity_slots.specs.SlotLists.{SlotLists}
use Rattle.signal_sink.specs.Hearings.{Hearing, HaveSpare}
use Rattle.storage.specs.Stored.{Stored}
use Rattle.world_model.specs.declared.component.Decl.{Decl}
use Rattle.world_model.specs.declared.component.Row.{Row}
use Rattle.world_model.specs.declared.event.Event.{Event}
use Rattle.world_model.specs.declared.world.World.{World}
use Rattle.world_model.specs.Outcomes.{Outcome}
use Rattle.world_model.specs.Worlds.{IsLawful}
use Rattle.registry.specs.declared.parts.Parts.{Parts}
use Rattle.registry.specs.Held.{Held, PoolRoom, Becomes}

-- the finite map of each pool
abbrev pub maps_of : List (Stored Row) → List (List (Entity × Row))
maps_of pools = map (λ stored. entries.map_of stored.pairs) pools

-- the entries of each pool, in packed order
abbrev pub pairs_of : List (Stored Row) → List (List (Entity × Row))
pairs_of pools = map (λ stored. stored.pairs) pools

-- the room of a pool
abbrev pub room_of : Stored Row → PoolRoom
room_of stored = record { spare = stored.spare; index_bound = stored.index_bound }

-- the room of each pool
abbrev pub rooms_of : List (Stored Row) → List PoolRoom
rooms_of pools = map room_of pools

-- the world that the parts stand for
abbrev pub world_of : {L : Type 0} → Parts L → World
world_of parts = record {
  profile = parts.slots.profile;
  decls = parts.decls;
  groups = parts.groups.decls;
  tick = 0;
  slots = parts.slots.slots;
  free = parts.slots.free;
  pools = maps_of parts.pools.items;
}

-- what a contract sees of the parts
abbrev pub held_of : {L : Type 0} → Parts L → Held
held_of parts = record {
  limit = parts.slots.limit;
  world = world_of parts;
  packed = packed_of parts.pools.items;
  construct = parts.construct.items;
  update = parts.update.items;
  destroy = parts.destroy.items;
  rooms = rooms_of parts.pools.items;
  slots_spare = parts.slots.spare;
}

-- each destruction listener has room for as many events as its pool has rows
abbrev pub HaveRoom : List (Stored Row) → List (List (Option Hearing)) → Type 0
HaveRoom pools hearings = (pool : ℕ) (stored : Stored Row) (list : List (Option Hearing)) → slice_get pools pool ≡ Some stored → slice_get hearings pool ≡ Some list → HaveSpare (length stored.pairs) list

-- the parts stand for a lawful world, there are one pool and three signals for each component, destroying finds room, and
-- each group is packed
pub record IsKept {L : Type 0} (parts : Parts L) : Type 0 where
  pub lawful : IsLawful parts.slots.limit (world_of parts)
  pub profile : parts.profile ≡ parts.slots.profile
  pub pool_each : length parts.pools.items ≡ length parts.decls
  pub construct_each : length parts.construct.items ≡ length parts.decls
  pub update_each : length parts.update.items ≡ length parts.decls
  pub destroy_each : length parts.destroy.items ≡ length parts.decls
  pub room : HaveRoom parts.pools.items parts.destroy.items
  pub group_pools : parts.groups.pools ≡ length parts.decls
  pub grouped : AreGrouped parts.groups.decls parts.groups.lens (packed_of parts.pools.items)

-- the groups of before, over as many pools, each packed in these
pub record KeepGroups (old new : Groups) (pools : List (Stored Row)) : Type 0 where
  pub decls : new.decls ≡ old.decls
  pub count : new.pools ≡ old.pools
  pub grouped : AreGrouped new.decls new.lens (packed_of pools)

-- the parts stand for another world, and the listeners have heard these events; there are as many signals,
-- room as before, and each group is packed
pub record IsChanged {L : Type 0} (old new : Parts L) (world : World) (events : List Event) : Type 0 where
  pub becomes : Becomes (held_of old) (held_of new) world events
  pub profile : new.profile ≡ old.profile
  pub construct_each : length new.construct.items ≡ length old.construct.items
  pub update_each : length new.update.items ≡ length old.update.items
  pub destroy_each : length new.destroy.items ≡ length old.destroy.items
  pub room : HaveRoom new.pools.items new.destroy.items
  pub group_pools : new.groups.pools ≡ old.groups.pools
  pub grouped : AreGrouped new.groups.decls new.groups.lens (packed_of new.pools.items)

-- the parts changed as an outcome says
abbrev pub Gives : {L : Type 0} → Parts L → Parts L → Outcome → Type 0
Gives old new outcome = IsChanged old new outcome.world outcome.events

-- the parts stand for the world of before, packed as before, and the listeners have heard nothing
pub record Stays {L : Type 0} (old new : Parts L) : Type 0 where
  pub unchanged : IsChanged old new (world_of old) []
  pub packed : packed_of new.pools.items ≡ packed_of old.pools.items

-- the parts are these, and nobody listens
pub record AreMadeOf {L : Type 0} (parts : Parts L) (limits : Profile) (components : List Decl) (entities : SlotLists) (stored : List (Stored Row)) (grouped : Groups) : Type 0 where
  pub profile : parts.profile ≡ limits
  pub decls : parts.decls ≡ components
  pub slots : parts.slots ≡ entities
  pub pools : parts.pools.items ≡ stored
  pub groups : parts.groups ≡ grouped
  pub construct : parts.construct.items ≡ replicate (length components) []
  pub update : parts.update.items ≡ replicate (length components) []
  pub destroy : parts.destroy.items ≡ replicate (length components) []
