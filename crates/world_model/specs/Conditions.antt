-- What the caller of a command has to know.
use Rattle.std.specs.Prelude.{ℕ, ◌+◌, ◌<◌, ◌≤◌, Bool, true, ℤ, List, length, slice_get, IsTrue}
use Rattle.std.specs.Option.{option_map_or}
use Rattle.entity_id.specs.declared.entity.Profile.{Profile}
use Rattle.world_model.specs.declared.command.Command.{Command}
use Rattle.world_model.specs.declared.command.Command.TheVariants.{Emplace, EmplaceOrReplace, Replace, Patch, View}
use Rattle.world_model.specs.declared.component.Decl.{Decl}
use Rattle.world_model.specs.declared.component.Row.{Row}
use Rattle.world_model.specs.declared.world.World.{World}
use Rattle.world_model.specs.Components.{IsRow, fits, fits_kind, has_field}
use Rattle.world_model.specs.Integers.{IsI64}

-- how many components a view names at most
abbrev pub view_limit : ℕ
view_limit = 16

-- whether a row fits the component of this number; where that isn't declared the command is refused, so nothing is asked
abbrev pub fits_pool : Profile → List Decl → ℕ → Row → Bool
fits_pool profile decls pool row = option_map_or (λ decl. fits profile decl row) (slice_get decls pool) true

-- a row may be set in the component of this number: it is one of 4 fields of 64 bits, and fits
pub record MaySet (profile : Profile) (decls : List Decl) (pool : ℕ) (row : Row) : Type 0 where
  pub wide : IsRow row
  pub fit : IsTrue (fits_pool profile decls pool row)

-- a field of the component of this number may be set: the value is one of 64 bits, and where the component is declared it has
-- the field, which may hold the value
pub record MaySetField (profile : Profile) (decls : List Decl) (pool field : ℕ) (value : ℤ) : Type 0 where
  pub wide : IsI64 value
  pub fit : pool < length decls → IsTrue (has_field (λ kind. fits_kind profile kind value) decls pool field)

-- a view names one component or more that its identifiers are in, and not more than the limit in all
pub record MayView (all without : List ℕ) : Type 0 where
  pub some : 0 < length all
  pub few : length all + length without ≤ view_limit

-- what the caller of a command has to know: the row or the value that it sets may be set; a view is one
abbrev pub IsAllowed : World → Command → Type 0
IsAllowed w (Emplace entity pool row) = MaySet w.profile w.decls pool row
IsAllowed w (EmplaceOrReplace entity pool row) = MaySet w.profile w.decls pool row
IsAllowed w (Replace entity pool row) = MaySet w.profile w.decls pool row
IsAllowed w (Patch entity pool field value) = MaySetField w.profile w.decls pool field value
IsAllowed w (View all without) = MayView all without
IsAllowed w _ = Unit {0}
