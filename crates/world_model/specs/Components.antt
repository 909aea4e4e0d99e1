-- Components, and the rows that fit them.
use Rattle.std.specs.Prelude.{◌≡◌, ℕ, ◌-◌, ◌≤◌, Bool, true, false, ◌&&◌, ◌||◌, nat_lt, ℤ, pos, negsuc, List, [], ◌∷◌, length, take, drop, replicate, slice_get, slice_index_or, slice_set}
use Rattle.std.specs.List.{AllByRecursion, list_all, zip}
use Rattle.std.specs.Option.{option_map_or}
use Rattle.std.specs.Ordering.{int_eq}
use Rattle.std.specs.Str.{bytes_eq}
use Rattle.entity_id.specs.declared.entity.Entity.{Entity}
use Rattle.entity_id.specs.declared.entity.Profile.{Profile}
use Rattle.entity_id.specs.Fields.{entity_in}
use Rattle.entity_id.specs.Identifiers.{null, is_same}
use Rattle.world_model.specs.declared.component.Kind.{Kind}
use Rattle.world_model.specs.declared.component.Kind.TheVariants.{Int, Ref}
use Rattle.world_model.specs.declared.component.Decl.{Decl}
use Rattle.world_model.specs.declared.component.Row.{Row}
use Rattle.world_model.specs.Integers.{IsI64}

-- a component has at most 4 fields; its list of kinds has 4, those past its fields Int. The form of its name is a matter of
-- documents and is not said here
pub record IsDecl (decl : Decl) : Type 0 where
  pub few : decl.count ≤ 4
  pub long : length decl.kinds ≡ 4
  pub padded : drop decl.count decl.kinds ≡ replicate (4 - decl.count) Int

-- a row has 4 fields of 64 bits each, as the program's type has
pub record IsRow (row : Row) : Type 0 where
  pub long : length row.f ≡ 4
  pub wide : AllByRecursion IsI64 row.f

-- whether a component has this name
abbrev pub has_name : List ℕ → Decl → Bool
has_name name decl = bytes_eq decl.name name

-- the kinds of a component's fields
abbrev pub kinds_of : Decl → List Kind
kinds_of decl = take decl.count decl.kinds

-- whether both parts of an identifier are below the limits
abbrev pub is_below : Profile → Entity → Bool
is_below profile entity = nat_lt entity.index profile.index_limit && nat_lt entity.version profile.version_limit

-- whether a field may hold an identifier: it is null, or both its parts are below the limits
abbrev pub is_target : Profile → Entity → Bool
is_target profile entity = is_same entity (null profile) || is_below profile entity

-- whether a field of this kind may hold the value: any number, or -1 for null, or an identifier below the limits
abbrev pub fits_kind : Profile → Kind → ℤ → Bool
fits_kind profile Int value = true
fits_kind profile Ref value = int_eq value (negsuc 0) || is_below profile (entity_in profile value)

-- whether a row of 4 fields fits a component: each declared field holds a value of its kind, and every other field is 0
abbrev pub fits : Profile → Decl → Row → Bool
fits profile decl row =
    list_all (λ pair. fits_kind profile pair.0 pair.1) (zip (kinds_of decl) (take decl.count row.f))
    && list_all (λ value. int_eq value (pos 0)) (drop decl.count row.f)

-- ---- fields by number

-- the number in a field
abbrev pub value_at : Row → ℕ → ℤ
value_at row field = slice_index_or row.f field (pos 0)

-- the row with one field set
abbrev pub with_field : Row → ℕ → ℤ → Row
with_field row field value = record { f = slice_set row.f field value }

-- all fields 0
abbrev pub zero_row : Row
zero_row = record { f = pos 0 ∷ pos 0 ∷ pos 0 ∷ pos 0 ∷ [] }

-- whether a kind is that of whole numbers
abbrev pub is_int : Kind → Bool
is_int Int = true
is_int Ref = false

-- whether the component of this number has a field of this number, of a kind that passes the test
abbrev pub has_field : (Kind → Bool) → List Decl → ℕ → ℕ → Bool
has_field test decls pool field = option_map_or (λ decl. option_map_or test (slice_get (kinds_of decl) field) false) (slice_get decls pool) false

-- whether the component of this number has an int field of this number
abbrev pub has_int_field : List Decl → ℕ → ℕ → Bool
has_int_field decls pool field = has_field is_int decls pool field
