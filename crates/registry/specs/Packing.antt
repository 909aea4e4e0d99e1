-- Where the packed lists of a registry go.
use Rattle.std.specs.Prelude.{◌≡◌, ◌==◌, ◌&&◌, ℕ, Bool, false, not, List, [], ◌∷◌, ◌++◌, map, length, drop, reverse, if◌then◌else◌, slice_set, Option, Some, None, is_some}
use Rattle.std.specs.List.{list_any}
use Rattle.std.specs.Option.{option_map_or}
use Rattle.entity_id.specs.declared.entity.Entity.{Entity}
use Rattle.entity_id.specs.FiniteMap as rows
use Rattle.entity_id.specs.PackedLists.{place_of, swap_popped}
use Rattle.world_model.specs.declared.command.Command.{Command}
use Rattle.world_model.specs.declared.command.Command.TheVariants.{Destroy, Emplace, EmplaceOrReplace, Remove, Erase, Clear, Group, SortPool, SortGroup}
use Rattle.world_model.specs.declared.component.Row.{Row}
use Rattle.world_model.specs.declared.group.GroupDecl.{GroupDecl}
use Rattle.world_model.specs.declared.refusal.Refusal.{Refusal}
use Rattle.world_model.specs.Contents.{has_row, holders, pool_at, group_at, group_where}
use Rattle.world_model.specs.Groups.{has_pool, is_same_group, packed_at}
use Rattle.world_model.specs.Outcomes.{member_rows}
use Rattle.world_model.specs.Sorting.{rows_by_field}
use Rattle.group_engine.specs.Grouped.{AreStill, moves}
use Rattle.registry.specs.Held.{Held}

-- a packed list that an identifier has left: the last one takes its place. Where it isn't there, the list stays
abbrev pub popped : Entity → List Entity → List Entity
popped entity list = option_map_or (swap_popped list) (place_of list entity) list

-- the packed lists, with an identifier appended to that of a pool
abbrev pub appended_in : ℕ → Entity → List (List Entity) → List (List Entity)
appended_in pool entity packed = slice_set packed pool (packed_at packed pool ++ entity ∷ [])

-- the packed lists once an identifier has left that of a pool
abbrev pub popped_in : ℕ → Entity → List (List Entity) → List (List Entity)
popped_in pool entity packed = slice_set packed pool (popped entity (packed_at packed pool))

-- the packed lists, with these identifiers first in those of some pools, in this order; what stands behind them stays
abbrev pub arranged_in : List ℕ → List Entity → List (List Entity) → List (List Entity)
arranged_in [] order packed = packed
arranged_in (pool ∷ pools) order packed =
    arranged_in pools order (slice_set packed pool (order ++ drop (length order) (packed_at packed pool)))

-- whether a group owns a pool
abbrev pub is_owned : List GroupDecl → ℕ → Bool
is_owned groups pool = list_any (λ decl. has_pool decl.own pool) groups

-- the identifiers of rows in descending order of a field, and of the index where the fields are equal: the walk from the back ascends
abbrev pub sorted_keys : ℕ → List (Entity × Row) → List Entity
sorted_keys field entries = reverse (rows.keys (rows_by_field field entries))

-- the packed lists once a command was carried out that isn't refused, but for those that it moves for the groups' sake
abbrev pub packed_after : Held → Command → List (List Entity)
packed_after held (Destroy entity) = map (popped entity) held.packed
packed_after held (Emplace entity pool row) = appended_in pool entity held.packed
packed_after held (EmplaceOrReplace entity pool row) = if has_row held.world pool entity then held.packed else appended_in pool entity held.packed
packed_after held (Remove entity pool) = popped_in pool entity held.packed
packed_after held (Erase entity pool) = popped_in pool entity held.packed
packed_after held (Clear pool) = slice_set held.packed pool []
packed_after held (SortPool pool field) = slice_set held.packed pool (sorted_keys field (pool_at held.world pool))
packed_after held (SortGroup group pool field) =
    let decl = group_at held.world group in
    arranged_in decl.own (sorted_keys field (member_rows held.world decl pool)) held.packed
packed_after held _ = held.packed

-- whether a command that isn't refused may move identifiers of a pool so that the groups that own it stay packed: one that adds or
-- removes a row does where a group names the row's pool and owns this one, a new group in the pools that it owns
abbrev pub regroups : Held → Command → ℕ → Bool
regroups held (Destroy entity) pool = list_any (λ left. moves held.world.groups left pool) (holders held.world entity)
regroups held (Emplace entity changed row) pool = moves held.world.groups changed pool
regroups held (EmplaceOrReplace entity changed row) pool = not (has_row held.world changed entity) && moves held.world.groups changed pool
regroups held (Remove entity changed) pool = has_row held.world changed entity && moves held.world.groups changed pool
regroups held (Erase entity changed) pool = moves held.world.groups changed pool
regroups held (Clear changed) pool = not (changed == pool) && moves held.world.groups changed pool
regroups held (Group decl) pool = not (is_some (group_where held.world (is_same_group decl))) && has_pool decl.own pool
regroups held _ pool = false

-- a command that isn't refused leaves the packed lists so: as many, and each that it doesn't move for the groups' sake is the one that
-- is said. Of the others the law of the type says what is in them, and which identifiers stand first
pub record Repacks (old new : Held) (command : Command) : Type 0 where
  pub each : length new.packed ≡ length old.packed
  pub lists : AreStill (regroups old command) (packed_after old command) new.packed

-- the same of any command: one that is refused for a cause leaves them as they were
abbrev pub RepacksUnless : Option Refusal → Held → Held → Command → Type 0
RepacksUnless (Some cause) old new command = new.packed ≡ old.packed
RepacksUnless None old new command = Repacks old new command
