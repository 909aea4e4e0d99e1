-- Tokens: texts that name a component or a field, or spell a value.
use Rattle.std.specs.Prelude.{◌≡◌, ℕ, ◌<◌, true, ℤ, List, ◌∷◌, ◌++◌, Option, Some, slice_get, IsTrue}
use Rattle.std.specs.List.{position_from}
use Rattle.std.specs.Option.{option_map_or}
use Rattle.std.specs.Fmt.{decimal, signed_decimal}
use Rattle.entity_id.specs.declared.entity.Entity.{Entity}
use Rattle.entity_id.specs.declared.entity.Profile.{Profile}
use Rattle.entity_id.specs.Fields.{field_of}
use Rattle.entity_id.specs.Texts.{entity_text}
use Rattle.world_model.specs.declared.component.Decl.{Decl}
use Rattle.world_model.specs.declared.component.Kind.{Kind}
use Rattle.world_model.specs.declared.component.Kind.TheVariants.{Int, Ref}
use Rattle.world_model.specs.declared.tokens.FieldAt.{FieldAt}
use Rattle.world_model.specs.Components.{has_name, is_target}
use Rattle.world_model.specs.Integers.{IsI64}
use Rattle.world_model.specs.Names.{is_name}

-- the number of the first component of this name
abbrev pub component_named : List Decl → List ℕ → Option ℕ
component_named decls name = position_from (has_name name) 0 decls

-- a token that is the name of the component of this number: it has the form of a name, and the component is the first of that name
pub record IsNameToken (decls : List Decl) (token : List ℕ) (pool : ℕ) : Type 0 where
  pub form : is_name token ≡ true
  pub first : component_named decls token ≡ Some pool

-- how many fields the component of this number has; one that isn't there has none
abbrev pub field_count : List Decl → ℕ → ℕ
field_count decls pool = option_map_or (λ decl. decl.count) (slice_get decls pool) 0

-- a token NAME.F (the dot is byte 46): the name of a component, and a number in decimal below its number of fields
pub record IsFieldToken (decls : List Decl) (token : List ℕ) (at : FieldAt) : Type 0 where
  pub name : List ℕ
  pub whole : token ≡ name ++ 46 ∷ decimal at.field
  pub named : IsNameToken decls name at.pool
  pub within : at.field < field_count decls at.pool

-- an identifier that a token spells and a field may hold, and the field that holds it
pub record IsTargetToken (profile : Profile) (token : List ℕ) (field : ℤ) : Type 0 where
  pub entity : Entity
  pub allowed : IsTrue (is_target profile entity)
  pub whole : token ≡ entity_text profile entity
  pub held : field ≡ field_of profile entity

-- a token that spells a value of this kind, and the field that holds it: a whole number of 64 bits, or an identifier
abbrev pub IsValueToken : Profile → Kind → List ℕ → ℤ → Type 0
IsValueToken profile Int token field = IsI64 field × (token ≡ signed_decimal field)
IsValueToken profile Ref token field = IsTargetToken profile token field
