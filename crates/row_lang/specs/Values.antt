-- What expressions are worth, for one entity. Their tokens stand in prefix order, each operator before its operands, so that they are
-- read from the last token to the first: what an operator takes has been read before it.
use Rattle.std.specs.Prelude.{ℕ, ◌==◌, ℤ, pos, negsuc, int_lt, List, [], ◌∷◌, drop, slice_index_or}
use Rattle.std.specs.Int.{w64, int_wrapping_add, int_wrapping_sub, int_wrapping_mul, int_min, int_max}
use Rattle.std.specs.Map.{lookup}
use Rattle.std.specs.Option.{option_map_or, unwrap_or}
use Rattle.std.specs.Ordering.{int_eq}
use Rattle.entity_id.specs.declared.entity.Entity.{Entity}
use Rattle.entity_id.specs.declared.entity.Profile.{Profile}
use Rattle.entity_id.specs.Fields.{field_of, entity_in}
use Rattle.entity_id.specs.FiniteMap as entries
use Rattle.entity_id.specs.Identifiers.{is_same}
use Rattle.world_model.specs.declared.component.Row.{Row}
use Rattle.world_model.specs.declared.tokens.FieldAt.{FieldAt}
use Rattle.world_model.specs.Components.{value_at, zero_row}
use Rattle.row_lang.specs.declared.token.Keyword.TheVariants as key
use Rattle.row_lang.specs.declared.token.Token.{Token}
use Rattle.row_lang.specs.declared.token.Token.TheVariants.{Word, Number, Own, Pool, Field}
use Rattle.row_lang.specs.Arithmetic.{truth, quotient, remainder, choice}

-- ---- what is known

-- what is known for the component of this number, and this other thing where nothing is
abbrev pub known_for : {X : Type 0} → ℕ → List (ℕ × X) → X → X
known_for pool known otherwise = unwrap_or (lookup (λ other. other == pool) known) otherwise

-- what a body finds and never changes: the profile, the number of the tick, the entity, and the rows of the components looked at
pub record Setting : Type 0 where
  pub profile : Profile
  pub tick : ℕ
  pub entity : Entity
  pub looked_at : List (ℕ × List (Entity × Row))

-- the rows of a component that is looked at; one that isn't has none
abbrev pub rows_looked_at : Setting → ℕ → List (Entity × Row)
rows_looked_at s pool = known_for pool s.looked_at []

-- the entity's own row of a component, out of those that are read or written
abbrev pub own_row : List (ℕ × Row) → ℕ → Row
own_row rows pool = known_for pool rows zero_row

-- ---- operands

-- what tokens give: the values of the expressions, the components that are named and the fields that are named, each in order
pub record Operands : Type 0 where
  pub values : List ℤ
  pub pools : List ℕ
  pub fields : List FieldAt

-- of no tokens
abbrev pub no_operands : Operands
no_operands = record { values = []; pools = []; fields = [] }

-- the value of this number, counted from 0
abbrev pub operand : Operands → ℕ → ℤ
operand o place = slice_index_or o.values place (pos 0)

-- the first component that is named
abbrev pub pool_named : Operands → ℕ
pool_named o = slice_index_or o.pools 0 0

-- the first field that is named
abbrev pub field_named : Operands → FieldAt
field_named o = slice_index_or o.fields 0 (record { pool = 0; field = 0 })

-- the first so many values taken away, and this one put there
abbrev pub replaced : ℕ → ℤ → Operands → Operands
replaced count value o = record o { values = value ∷ drop count o.values }

-- an operator on the first two values
abbrev pub on_two : (ℤ → ℤ → ℤ) → Operands → Operands
on_two operator o = replaced 2 (operator (operand o 0) (operand o 1)) o

-- ---- the language

-- whether two fields hold the same identifier, in index and version
abbrev pub same_entity : Profile → ℤ → ℤ → ℤ
same_entity profile x y = truth (is_same (entity_in profile x) (entity_in profile y))

-- whether the identifier in a field has a row in the component looked at
abbrev pub has_value : Setting → ℕ → ℤ → ℤ
has_value s pool x = truth (entries.contains (rows_looked_at s pool) (entity_in s.profile x))

-- the field of the identifier's row in the component looked at, and the other value where it has none
abbrev pub at_value : Setting → FieldAt → ℤ → ℤ → ℤ
at_value s at x otherwise = option_map_or (λ row. value_at row at.field) (entries.get (rows_looked_at s at.pool) (entity_in s.profile x)) otherwise

-- what tokens give that begin with this one, from what those behind it give. A word of a statement, that is no expression's, gives
-- nothing more
abbrev pub operands_with : Setting → List (ℕ × Row) → Token → Operands → Operands
operands_with s rows (Number n) o = replaced 0 n o
operands_with s rows (Own at) o = replaced 0 (value_at (own_row rows at.pool) at.field) o
operands_with s rows (Pool pool) o = record o { pools = pool ∷ o.pools }
operands_with s rows (Field at) o = record o { fields = at ∷ o.fields }
operands_with s rows (Word key.Tick) o = replaced 0 (pos s.tick) o
operands_with s rows (Word key.Plus) o = on_two (int_wrapping_add w64) o
operands_with s rows (Word key.Minus) o = on_two (int_wrapping_sub w64) o
operands_with s rows (Word key.Times) o = on_two (int_wrapping_mul w64) o
operands_with s rows (Word key.Divide) o = on_two quotient o
operands_with s rows (Word key.Remainder) o = on_two remainder o
operands_with s rows (Word key.Least) o = on_two int_min o
operands_with s rows (Word key.Greatest) o = on_two int_max o
operands_with s rows (Word key.Less) o = on_two (λ x y. truth (int_lt x y)) o
operands_with s rows (Word key.Equal) o = on_two (λ x y. truth (int_eq x y)) o
operands_with s rows (Word key.Choice) o = replaced 3 (choice (operand o 0) (operand o 1) (operand o 2)) o
operands_with s rows (Word key.Oneself) o = replaced 0 (field_of s.profile s.entity) o
operands_with s rows (Word key.Null) o = replaced 0 (negsuc 0) o
operands_with s rows (Word key.Same) o = on_two (same_entity s.profile) o
operands_with s rows (Word key.Has) o = record (replaced 1 (has_value s (pool_named o) (operand o 0)) o) { pools = drop 1 o.pools }
operands_with s rows (Word key.At) o = record (replaced 2 (at_value s (field_named o) (operand o 0) (operand o 1)) o) { fields = drop 1 o.fields }
operands_with s rows (Word word) o = o

-- what tokens give in a setting, where the own rows are these
abbrev pub operands_of : Setting → List (ℕ × Row) → List Token → Operands
operands_of s rows [] = no_operands
operands_of s rows (token ∷ tokens) = operands_with s rows token (operands_of s rows tokens)
