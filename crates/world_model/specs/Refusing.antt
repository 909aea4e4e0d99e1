-- Why a command is refused: the first cause that holds.
use Rattle.std.specs.Prelude.{ℕ, Bool, not, ◌&&◌, nat_lt, List, [], ◌∷◌, ◌++◌, length, Option, Some, None, is_some, if◌then◌else◌}
use Rattle.std.specs.Option.{option_map, option_or}
use Rattle.entity_id.specs.declared.entity.Entity.{Entity}
use Rattle.world_model.specs.declared.command.Command.{Command}
use Rattle.world_model.specs.declared.command.Command.TheVariants.{Create, Hint, Destroy, Valid, Emplace, EmplaceOrReplace, Replace, Patch, Remove, Erase, Clear, Get, AllOf, AnyOf, Orphan, Alive, Size, View, Group, Members, SortPool, SortGroup}
use Rattle.world_model.specs.declared.group.GroupDecl.{GroupDecl}
use Rattle.world_model.specs.declared.refusal.Refusal.{Refusal}
use Rattle.world_model.specs.declared.refusal.Refusal.TheVariants as refusal
use Rattle.world_model.specs.declared.world.World.{World}
use Rattle.world_model.specs.Components.{has_int_field}
use Rattle.world_model.specs.Contents.{has_row, group_at, group_where}
use Rattle.world_model.specs.Groups.{group_limit, has_pool, are_declared, group_pools, is_well_formed, is_same_group, is_inner, groups_conflict}
use Rattle.world_model.specs.Slots.{is_live, is_full, is_plain_hint}

-- a refusal under a condition
abbrev pub refuse : Bool → Refusal → Option Refusal
refuse holds cause = if holds then Some cause else None

-- the first refusal that holds
abbrev pub first_refusal : List (Option Refusal) → Option Refusal
first_refusal [] = None
first_refusal (refused ∷ rest) = option_or refused (first_refusal rest)

-- where a named component is not declared
abbrev pub when_no_pool : World → List ℕ → Option Refusal
when_no_pool w pools = refuse (not (are_declared (length w.decls) pools)) refusal.NoPool

-- where the identifier is not live
abbrev pub when_dead : World → Entity → Option Refusal
when_dead w entity = refuse (not (is_live w.slots entity)) refusal.Dead

-- where the identifier has a row in the component
abbrev pub when_present : World → ℕ → Entity → Option Refusal
when_present w pool entity = refuse (has_row w pool entity) refusal.Present

-- where the identifier has no row in the component
abbrev pub when_absent : World → ℕ → Entity → Option Refusal
when_absent w pool entity = refuse (not (has_row w pool entity)) refusal.Absent

-- where no identifier can be made
abbrev pub when_full : ℕ → World → Option Refusal
when_full limit w = refuse (is_full limit w.slots w.free) refusal.Full

-- where there is no group of this number
abbrev pub when_no_group : World → ℕ → Option Refusal
when_no_group w group = refuse (not (nat_lt group (length w.groups))) refusal.NoGroup

-- where a group owns no pool, names one twice, or names too many
abbrev pub when_bad_decl : GroupDecl → Option Refusal
when_bad_decl decl = refuse (not (is_well_formed decl)) refusal.BadDecl

-- the least group in conflict, or no room for one more; neither where the same group stands
abbrev pub when_not_addable : World → GroupDecl → Option Refusal
when_not_addable w decl =
    if is_some (group_where w (is_same_group decl)) then None
    else option_or (option_map (λ group. refusal.Conflict group) (group_where w (groups_conflict decl)))
    (refuse (not (nat_lt (length w.groups) group_limit)) refusal.TooMany)

-- where the component has no int field of this number
abbrev pub when_no_int_field : World → ℕ → ℕ → Option Refusal
when_no_int_field w pool field = refuse (not (has_int_field w.decls pool field)) refusal.BadKey

-- where a group neither owns nor observes the pool
abbrev pub when_foreign : GroupDecl → ℕ → Option Refusal
when_foreign decl pool = refuse (not (has_pool (decl.own ++ decl.get) pool)) refusal.BadKey

-- the least group that owns the pool
abbrev pub when_owned : World → ℕ → Option Refusal
when_owned w pool = option_map (λ group. refusal.Owned group) (group_where w (λ decl. has_pool decl.own pool))

-- the least group that is inner to this one and not the same: it is more restrictive, and owns every pool that this one owns
abbrev pub when_has_inner : World → GroupDecl → Option Refusal
when_has_inner w decl =
    option_map (λ group. refusal.HasInner group) (group_where w (λ other. is_inner other decl && not (is_inner decl other)))

-- why a command on the rows of one entity in one component is refused: the component is not declared, the identifier is not live,
-- or this further cause
abbrev pub when_no_entry : World → ℕ → Entity → Option Refusal → Option Refusal
when_no_entry w pool entity further = first_refusal (when_no_pool w (pool ∷ []) ∷ when_dead w entity ∷ further ∷ [])

-- why a command is refused, with at most this many slots
abbrev pub refusal_of : ℕ → World → Command → Option Refusal
refusal_of limit w Create = when_full limit w
refusal_of limit w (Hint hint) = if is_plain_hint w.profile limit w.slots hint then when_full limit w else None
refusal_of limit w (Destroy entity) = when_dead w entity
refusal_of limit w (Valid entity) = None
refusal_of limit w (Emplace entity pool row) = when_no_entry w pool entity (when_present w pool entity)
refusal_of limit w (EmplaceOrReplace entity pool row) = when_no_entry w pool entity None
refusal_of limit w (Replace entity pool row) = when_no_entry w pool entity (when_absent w pool entity)
refusal_of limit w (Patch entity pool field value) = when_no_entry w pool entity (when_absent w pool entity)
refusal_of limit w (Remove entity pool) = when_no_entry w pool entity None
refusal_of limit w (Erase entity pool) = when_no_entry w pool entity (when_absent w pool entity)
refusal_of limit w (Clear pool) = when_no_pool w (pool ∷ [])
refusal_of limit w (Get entity pool) = when_no_entry w pool entity (when_absent w pool entity)
refusal_of limit w (AllOf entity pools) = first_refusal (when_no_pool w pools ∷ when_dead w entity ∷ [])
refusal_of limit w (AnyOf entity pools) = first_refusal (when_no_pool w pools ∷ when_dead w entity ∷ [])
refusal_of limit w (Orphan entity) = when_dead w entity
refusal_of limit w Alive = None
refusal_of limit w Size = None
refusal_of limit w (View all without) = when_no_pool w (all ++ without)
refusal_of limit w (Group decl) = first_refusal (when_no_pool w (group_pools decl) ∷ when_bad_decl decl ∷ when_not_addable w decl ∷ [])
refusal_of limit w (Members group) = when_no_group w group
refusal_of limit w (SortPool pool field) =
    first_refusal (when_no_pool w (pool ∷ []) ∷ when_no_int_field w pool field ∷ when_owned w pool ∷ [])
refusal_of limit w (SortGroup group pool field) =
    let decl = group_at w group in
    first_refusal
    (when_no_group w group ∷ when_no_pool w (pool ∷ []) ∷ when_foreign decl pool ∷ when_no_int_field w pool field ∷ when_has_inner w decl ∷ [])
