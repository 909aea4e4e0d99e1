-- What the statements of a body do for one entity: to its own rows, and in orders, which are carried out at the end of the tick.
use Rattle.std.specs.Prelude.{ℕ, ◌==◌, Bool, true, false, ℤ, pos, if◌then◌else◌, List, [], ◌∷◌, ◌++◌, map, take, drop, replicate, Option, Some, None}
use Rattle.std.specs.Option.{option_map_or}
use Rattle.entity_id.specs.Fields.{entity_in}
use Rattle.world_model.specs.declared.component.Row.{Row}
use Rattle.world_model.specs.declared.deferred.Deferred.{Deferred}
use Rattle.world_model.specs.declared.deferred.Deferred.TheVariants as order
use Rattle.world_model.specs.declared.tokens.FieldAt.{FieldAt}
use Rattle.world_model.specs.Components.{with_field}
use Rattle.row_lang.specs.declared.token.Keyword.{Keyword}
use Rattle.row_lang.specs.declared.token.Keyword.TheVariants as key
use Rattle.row_lang.specs.declared.token.Token.{Token}
use Rattle.row_lang.specs.declared.token.Token.TheVariants.{Word}
use Rattle.row_lang.specs.Arithmetic.{is_zero}
use Rattle.row_lang.specs.Values.{Setting, Operands, operand, pool_named, field_named, operands_of}

-- what a body has done for an entity: its own rows, whether a spawn was done, and the orders given
pub record Done : Type 0 where
  pub rows : List (ℕ × Row)
  pub spawned : Bool
  pub orders : List Deferred

-- ---- one deed

-- own rows with one field set
abbrev pub with_own_field : List (ℕ × Row) → FieldAt → ℤ → List (ℕ × Row)
with_own_field rows at value = map (λ own. if own.0 == at.pool then (own.0, with_field own.1 at.field value) else own) rows

-- a row of these fields, and 0 in those past them
abbrev pub padded_row : List ℤ → Row
padded_row fields = record { f = take 4 (fields ++ replicate 4 (pos 0)) }

-- one order more
abbrev pub ordering : Deferred → Done → Done
ordering given d = record d { orders = d.orders ++ given ∷ [] }

-- what a word does with its operands. The first value of an order on an entity is the field that holds its identifier; a word that
-- isn't one of a deed does nothing
abbrev pub after_deed : Setting → Keyword → Operands → Done → Done
after_deed s key.Set o d = record d { rows = with_own_field d.rows (field_named o) (operand o 0) }
after_deed s key.Kill o d = ordering (order.Kill (entity_in s.profile (operand o 0))) d
after_deed s key.Give o d = ordering (order.Give (entity_in s.profile (operand o 0)) (pool_named o) (padded_row (drop 1 o.values))) d
after_deed s key.Take o d = ordering (order.Take (entity_in s.profile (operand o 0)) (pool_named o)) d
after_deed s key.Send o d = ordering (order.Send (entity_in s.profile (operand o 0)) (field_named o).pool (field_named o).field (operand o 1)) d
after_deed s key.Add o d = ordering (order.Add (entity_in s.profile (operand o 0)) (field_named o).pool (field_named o).field (operand o 1)) d
after_deed s key.Spawn o d = record (ordering order.Spawn d) { spawned = true }
after_deed s key.Bear o d = if d.spawned then ordering (order.Bear (pool_named o) (padded_row o.values)) d else d
after_deed s _ o d = d

-- the same for a word that may not be there
abbrev pub after_any_deed : Setting → Option Keyword → Operands → Done → Done
after_any_deed s word o d = option_map_or (λ it. after_deed s it o d) word d

-- ---- statements

-- whether a word says what a statement does
abbrev pub is_deed : Keyword → Bool
is_deed key.Set = true
is_deed key.Kill = true
is_deed key.Give = true
is_deed key.Take = true
is_deed key.Send = true
is_deed key.Add = true
is_deed key.Spawn = true
is_deed key.Bear = true
is_deed _ = false

-- the word that says what a statement does: the first such one, as a test has none
abbrev pub deed_of : List Token → Option Keyword
deed_of [] = None
deed_of (Word word ∷ tokens) = if is_deed word then Some word else deed_of tokens
deed_of (token ∷ tokens) = deed_of tokens

-- one statement. Behind a test it is done where the test isn't 0; the test's value stands before the deed's
abbrev pub after_statement : Setting → List Token → Done → Done
after_statement s (Word key.When ∷ tokens) d =
    let o = operands_of s d.rows tokens in
    if is_zero (operand o 0) then d else after_any_deed s (deed_of tokens) (record o { values = drop 1 o.values }) d
after_statement s tokens d = after_any_deed s (deed_of tokens) (operands_of s d.rows tokens) d

-- a body, statement after statement: each finds the own rows that the one before left
abbrev pub after_body : Setting → List (List Token) → Done → Done
after_body s [] d = d
after_body s (statement ∷ statements) d = after_body s statements (after_statement s statement d)

-- what a body does for an entity with these own rows
abbrev pub body_done : Setting → List (ℕ × Row) → List (List Token) → Done
body_done s rows statements = after_body s statements (record { rows = rows; spawned = false; orders = [] })
