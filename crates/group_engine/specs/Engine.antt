-- What a contract sees of the groups of some pools.
use Rattle.std.specs.Prelude.{ℕ, not, ◌&&◌, List, [], map, Option, slice_index_or}
use Rattle.std.specs.List.{position_from}
use Rattle.std.specs.Option.{option_map, option_or}
use Rattle.entity_id.specs.declared.entity.Entity.{Entity}
use Rattle.storage.specs.Stored.{Stored}
use Rattle.world_model.specs.declared.group.GroupDecl.{GroupDecl}
use Rattle.world_model.specs.declared.refusal.Refusal.{Refusal}
use Rattle.world_model.specs.Groups.{has_pool, is_inner, group_prefix}
use Rattle.group_rules.specs.Families.{decl_refusal, add_refusal}
use Rattle.group_rules.specs.Refusals.{of_decl, of_family}

-- the groups by number, how many members each has, and how many pools there are
pub record Groups : Type 0 where
  pub decls : List GroupDecl
  pub lens : List ℕ
  pub pools : ℕ

-- the declaration of this number; one that isn't there names nothing
abbrev pub decl_at : Groups → ℕ → GroupDecl
decl_at groups group = slice_index_or groups.decls group (record { own = []; get = []; without = [] })

-- how many members the group of this number has
abbrev pub len_at : Groups → ℕ → ℕ
len_at groups group = slice_index_or groups.lens group 0

-- a group's members in packed lists: as many first identifiers of its first owned pool as it is long
abbrev pub prefix_at : Groups → List (List Entity) → ℕ → List Entity
prefix_at groups packed group = group_prefix packed (decl_at groups group) (len_at groups group)

-- the values of a pool, in packed order
abbrev pub values_at : {T : Type 0} → List (Stored T) → ℕ → List T
values_at pools pool = slice_index_or (map (λ stored. map (λ pair. pair.1) stored.pairs) pools) pool []

-- the least group that owns a pool
abbrev pub owner_of : List GroupDecl → ℕ → Option ℕ
owner_of decls pool = position_from (λ decl. has_pool decl.own pool) 0 decls

-- the least group that is inner to this one and not the same: it is more restrictive, and owns every pool that this one owns
abbrev pub inner_in : List GroupDecl → GroupDecl → Option ℕ
inner_in decls decl = position_from (λ other. is_inner other decl && not (is_inner decl other)) 0 decls

-- why a group is not built, but for want of memory: it is no group over these pools; or else it can't stand beside the others
abbrev pub build_refusal : Groups → GroupDecl → Option Refusal
build_refusal groups decl = option_or (option_map of_decl (decl_refusal groups.pools decl)) (option_map of_family (add_refusal groups.decls decl))
