-- A lawful world.
use Rattle.std.specs.Prelude.{ℕ, ◌≤◌, List, [], length, replicate, IsTrue}
use Rattle.std.specs.List.{AllByRecursion, AllZip}
use Rattle.entity_id.specs.declared.entity.Entity.{Entity}
use Rattle.entity_id.specs.declared.entity.Profile.{Profile}
use Rattle.entity_id.specs.Identifiers.{is_profile}
use Rattle.entity_id.specs.FiniteMap as entries
use Rattle.world_model.specs.declared.component.Decl.{Decl}
use Rattle.world_model.specs.declared.component.Row.{Row}
use Rattle.world_model.specs.declared.slot.Slot.{Slot}
use Rattle.world_model.specs.declared.world.World.{World}
use Rattle.world_model.specs.Components.{IsDecl, IsRow, fits}
use Rattle.world_model.specs.Groups.{AreLawfulGroups}
use Rattle.world_model.specs.Slots.{is_live, AreLawfulSlots}

-- how many components a world has at most
abbrev pub component_limit : ℕ
component_limit = 64

-- the lawful rows of one component: entities live and in ascending index, each row of 4 fields of 64 bits and fitting
pub record AreLawfulRows (profile : Profile) (slots : List Slot) (decl : Decl) (rows : List (Entity × Row)) : Type 0 where
  pub ascending : entries.IsAscending rows
  pub live : AllByRecursion (λ entry. IsTrue (is_live slots entry.0)) rows
  pub wide : AllByRecursion (λ entry. IsRow entry.1) rows
  pub fitting : AllByRecursion (λ entry. IsTrue (fits profile decl entry.1)) rows

-- a lawful world with at most this many slots: one of the two profiles, lawful components, no more than their limit, lawful slots and free
-- list, lawful rows of each component, and lawful groups
pub record IsLawful (limit : ℕ) (world : World) : Type 0 where
  pub profile : IsTrue (is_profile world.profile)
  pub few_decls : length world.decls ≤ component_limit
  pub decls : AllByRecursion IsDecl world.decls
  pub slots : AreLawfulSlots world.profile limit world.slots world.free
  pub pools : AllZip (AreLawfulRows world.profile world.slots) world.decls world.pools
  pub groups : AreLawfulGroups (length world.decls) world.groups

-- a world without slots, groups and rows
abbrev pub empty_world : Profile → List Decl → World
empty_world profile decls = record { profile = profile; decls = decls; groups = []; tick = 0; slots = []; free = []; pools = replicate (length decls) [] }
