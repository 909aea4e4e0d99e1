-- What a command gives that is not refused: its reply, the world after it, and its events.
use Rattle.std.specs.Prelude.{ℕ, not, List, [], ◌∷◌, ◌++◌, map, filter, length, count_by, if◌then◌else◌}
use Rattle.std.specs.List.{list_any, list_all}
use Rattle.std.specs.Option.{option_map_or}
use Rattle.entity_id.specs.declared.entity.Entity.{Entity}
use Rattle.entity_id.specs.FiniteMap as rows
use Rattle.entity_id.specs.Matching.{matches, is_match}
use Rattle.world_model.specs.declared.command.Command.{Command}
use Rattle.world_model.specs.declared.command.Command.TheVariants.{Create, Hint, Destroy, Valid, Emplace, EmplaceOrReplace, Replace, Patch, Remove, Erase, Clear, Get, AllOf, AnyOf, Orphan, Alive, Size, View, Group, Members, SortPool, SortGroup}
use Rattle.world_model.specs.declared.command.Reply.{Reply}
use Rattle.world_model.specs.declared.command.Reply.TheVariants.{Done, Made, Truth, Number, Values, Listed, GroupNumber}
use Rattle.world_model.specs.declared.component.Row.{Row}
use Rattle.world_model.specs.declared.event.Event.{Event}
use Rattle.world_model.specs.declared.event.EventKind.{EventKind}
use Rattle.world_model.specs.declared.event.EventKind.TheVariants as event
use Rattle.world_model.specs.declared.group.GroupDecl.{GroupDecl}
use Rattle.world_model.specs.declared.world.World.{World}
use Rattle.world_model.specs.Components.{with_field}
use Rattle.world_model.specs.Contents.{pool_at, has_row, row_at, with_pool, keys_of, holders, group_at, group_where}
use Rattle.world_model.specs.Groups.{is_same_group, members}
use Rattle.world_model.specs.Slots.{Creation, is_live, plain_creation, creation_by_hint, slots_after_destroy}
use Rattle.world_model.specs.Sorting.{rows_by_field}

-- what a command gives
pub record Outcome : Type 0 where
  pub reply : Reply
  pub world : World
  pub events : List Event

-- the world stays, and nothing is told
abbrev pub answers : World → Reply → Outcome
answers w reply = record { reply = reply; world = w; events = [] }

-- one event
abbrev pub tells : EventKind → ℕ → Entity → Event
tells kind pool entity = record { kind = kind; pool = pool; entity = entity }

-- the row of one identifier set in one component
abbrev pub sets : EventKind → World → Entity → ℕ → Row → Outcome
sets kind w entity pool row = record {
  reply = Done;
  world = with_pool w pool (rows.put (pool_at w pool) entity row);
  events = tells kind pool entity ∷ [];
}

-- the row of one identifier gone from one component
abbrev pub drops : World → Entity → ℕ → Reply → Outcome
drops w entity pool reply = record {
  reply = reply;
  world = with_pool w pool (rows.remove (pool_at w pool) entity);
  events = tells event.Destroy pool entity ∷ [];
}

-- an identifier made
abbrev pub makes : World → Creation → Outcome
makes w creation = record { reply = Made creation.entity; world = record w { slots = creation.slots; free = creation.free }; events = [] }

-- an identifier out of every component, the last one first, and its slot free
abbrev pub destroys : World → Entity → Outcome
destroys w entity = record {
  reply = Done;
  world = record w {
    slots = slots_after_destroy w.profile w.slots entity;
    free = entity.index ∷ w.free;
    pools = map (λ pool. rows.remove pool entity) w.pools;
  };
  events = map (λ pool. tells event.Destroy pool entity) (holders w entity);
}

-- every row of one component gone, in ascending index
abbrev pub clears : World → ℕ → Outcome
clears w pool = record {
  reply = Number (length (pool_at w pool));
  world = with_pool w pool [];
  events = map (tells event.Destroy pool) (rows.keys (pool_at w pool));
}

-- a group added behind the others, unless the same one stands
abbrev pub finds_or_adds : World → GroupDecl → Outcome
finds_or_adds w decl =
    option_map_or (λ group. answers w (GroupNumber group)) (group_where w (is_same_group decl))
    (answers (record w { groups = w.groups ++ decl ∷ [] }) (GroupNumber (length w.groups)))

-- the rows of a group's entities in one component
abbrev pub member_rows : World → GroupDecl → ℕ → List (Entity × Row)
member_rows w decl pool = filter (λ entry. is_match (keys_of w) (decl.own ++ decl.get) decl.without entry.0) (pool_at w pool)

-- what a command gives that is not refused, with at most this many slots
abbrev pub outcome_of : ℕ → World → Command → Outcome
outcome_of limit w Create = makes w (plain_creation w.slots w.free)
outcome_of limit w (Hint hint) = makes w (creation_by_hint w.profile limit w.slots w.free hint)
outcome_of limit w (Destroy entity) = destroys w entity
outcome_of limit w (Valid entity) = answers w (Truth (is_live w.slots entity))
outcome_of limit w (Emplace entity pool row) = sets event.Construct w entity pool row
outcome_of limit w (EmplaceOrReplace entity pool row) = sets (if has_row w pool entity then event.Update else event.Construct) w entity pool row
outcome_of limit w (Replace entity pool row) = sets event.Update w entity pool row
outcome_of limit w (Patch entity pool field value) = sets event.Update w entity pool (with_field (row_at w pool entity) field value)
outcome_of limit w (Remove entity pool) = if has_row w pool entity then drops w entity pool (Number 1) else answers w (Number 0)
outcome_of limit w (Erase entity pool) = drops w entity pool Done
outcome_of limit w (Clear pool) = clears w pool
outcome_of limit w (Get entity pool) = answers w (Values (row_at w pool entity))
outcome_of limit w (AllOf entity pools) = answers w (Truth (list_all (λ pool. has_row w pool entity) pools))
outcome_of limit w (AnyOf entity pools) = answers w (Truth (list_any (λ pool. has_row w pool entity) pools))
outcome_of limit w (Orphan entity) = answers w (Truth (not (list_any (λ pool. rows.contains pool entity) w.pools)))
outcome_of limit w Alive = answers w (Number (count_by (λ slot. slot.live) w.slots))
outcome_of limit w Size = answers w (Number (length w.slots))
outcome_of limit w (View all without) = answers w (Listed (matches (keys_of w) all without))
outcome_of limit w (Group decl) = finds_or_adds w decl
outcome_of limit w (Members group) = answers w (Listed (members (keys_of w) (group_at w group)))
outcome_of limit w (SortPool pool field) = answers w (Listed (rows.keys (rows_by_field field (pool_at w pool))))
outcome_of limit w (SortGroup group pool field) = answers w (Listed (rows.keys (rows_by_field field (member_rows w (group_at w group) pool))))
