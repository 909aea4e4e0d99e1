-- Fields of components: how they are spelled, and of which kind each is.
use Rattle.std.specs.Prelude.{ℕ, List, ◌∷◌, ◌++◌, slice_get, Option}
use Rattle.std.specs.Option.{option_and_then}
use Rattle.std.specs.Fmt.{decimal}
use Rattle.world_model.specs.declared.component.Decl.{Decl}
use Rattle.world_model.specs.declared.component.Kind.{Kind}
use Rattle.world_model.specs.Components.{kinds_of}
use Rattle.row_lang.specs.NameLists.{name_at}

-- the kind of a field of a component
abbrev pub kind_at : List Decl → ℕ → ℕ → Option Kind
kind_at decls pool field = option_and_then (λ decl. slice_get (kinds_of decl) field) (slice_get decls pool)

-- a field of a component: its name, a dot (46) and the field's number
abbrev pub field_text : List Decl → ℕ → ℕ → List ℕ
field_text decls pool field = name_at decls pool ++ 46 ∷ decimal field
