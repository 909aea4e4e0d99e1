-- A registry whose pools are lent, and the pools that it takes back.
use Rattle.std.specs.Prelude.{◌≡◌, ℕ, ◌≤◌, ◌++◌, ◌&&◌, Bool, List, map, length, take, slice_index_or, Option, IsTrue, IsPermutation}
use Rattle.std.specs.List.{position_from}
use Rattle.std.specs.Option.{option_map}
use Rattle.entity_id.specs.declared.entity.Entity.{Entity}
use Rattle.entity_id.specs.FiniteMap as entries
use Rattle.storage.specs.Stored.{Stored}
use Rattle.world_model.specs.declared.access.Access.{Access}
use Rattle.world_model.specs.declared.component.Row.{Row}
use Rattle.world_model.specs.declared.group.GroupDecl.{GroupDecl}
use Rattle.world_model.specs.Contents.{group_at}
use Rattle.world_model.specs.Frames.{own_pools, members, AreFittingMaps}
use Rattle.world_model.specs.Groups.{has_pool, includes, packed_at}
use Rattle.world_model.specs.Worlds.{IsLawful}
use Rattle.group_engine.specs.Grouped.{packed_of, AreGrouped}
use Rattle.registry.specs.Held.{Held, PoolRoom}
use Rattle.registry.specs.Layout.{maps_of, room_of, rooms_of, HaveRoom}

-- what is left of a registry while its pools are lent, of which rows, packed lists and the room of pools don't count; and how many
-- members each of its groups has
pub record Emptied : Type 0 where
  pub rest : Held
  pub lens : List ℕ

-- the registry that it is with these pools in their places
abbrev pub refilled : Emptied → List (Stored Row) → Held
refilled shell pools = record shell.rest {
  world = record shell.rest.world { pools = maps_of pools };
  packed = packed_of pools;
  rooms = rooms_of pools;
}

-- what a run on a pool leaves as it is: the identifiers in their places, and the room
pub record Shape : Type 0 where
  pub identifiers : List Entity
  pub room : PoolRoom

-- that of one pool
abbrev pub shape_of : Stored Row → Shape
shape_of stored = record { identifiers = entries.keys stored.pairs; room = room_of stored }

-- and of each pool
abbrev pub shapes_of : List (Stored Row) → List Shape
shapes_of pools = map shape_of pools

-- pools that make a registry of what is left: their world is lawful, each group is packed in them, and each listener that hears of
-- rows removed has room for them all
pub record IsLent (shell : Emptied) (pools : List (Stored Row)) : Type 0 where
  pub each : length pools ≡ length shell.rest.world.decls
  pub lawful : IsLawful shell.rest.limit (refilled shell pools).world
  pub grouped : AreGrouped shell.rest.world.groups shell.lens (packed_of pools)
  pub room : HaveRoom pools shell.rest.destroy

-- pools that may be put back: those that were lent, each in its place, with the identifiers in their places and the room that it had,
-- and rows that fit
pub record MayComeBack (shell : Emptied) (pools : List (Stored Row)) : Type 0 where
  pub lent : List (Stored Row)
  pub taken : IsLent shell lent
  pub shapes : shapes_of pools ≡ shapes_of lent
  pub fitting : AreFittingMaps shell.rest.world.profile shell.rest.world.decls (maps_of pools)

-- ---- walks along a group

-- whether two lists have the same pools
abbrev pub have_same : List ℕ → List ℕ → Bool
have_same a b = includes a b && includes b a

-- whether a group's members are a system's entities by the lists of both: the group owns or observes the pools that the system reads or
-- writes, and excludes those that it excludes
abbrev pub has_members_of : Access → GroupDecl → Bool
has_members_of access decl = have_same (own_pools access) (decl.own ++ decl.get) && have_same access.without decl.without

-- the first pool that a group owns, and how many members it has
abbrev pub prefix_of : Emptied → ℕ → ℕ × ℕ
prefix_of shell group = (slice_index_or (group_at shell.rest.world group).own 0 0, slice_index_or shell.lens group 0)

-- those of the least group whose members are a system's entities
abbrev pub prefix_in : Emptied → Access → Option (ℕ × ℕ)
prefix_in shell access = option_map (prefix_of shell) (position_from (has_members_of access) 0 shell.rest.world.groups)

-- a pool of a system's own whose first so many identifiers are the system's entities, each once, in whatever order
pub record BeginsWithMembers (access : Access) (pools : List (Stored Row)) (pool count : ℕ) : Type 0 where
  pub own : IsTrue (has_pool (own_pools access) pool)
  pub within : count ≤ length (packed_at (packed_of pools) pool)
  pub first : IsPermutation (take count (packed_at (packed_of pools) pool)) (members access (maps_of pools))
