-- Worked examples of expressions, bodies and systems, computed.
use Rattle.std.proofs.Common.{◌≡◌, ℕ, ℤ, pos, negsuc, false, List, [], ◌∷◌, ◌++◌, map, refl}
use Rattle.entity_id.specs.Identifiers.{p20_12}
use Rattle.world_model.specs.declared.component.Row.{Row}
use Rattle.world_model.specs.declared.deferred.Deferred.{Deferred}
use Rattle.world_model.specs.declared.deferred.Deferred.TheVariants as order
use Rattle.world_model.specs.Components.{zero_row}
use Rattle.world_model.proofs.WorkedWorlds.{id, row}
use Rattle.row_lang.specs.declared.token.Keyword.TheVariants as key
use Rattle.row_lang.specs.declared.token.Token.{Token}
use Rattle.row_lang.specs.declared.token.Token.TheVariants.{Word, Number, Own, Pool, Field}
use Rattle.row_lang.specs.Bodies.{Done, body_done}
use Rattle.row_lang.specs.Values.{Setting, operands_of}

-- ---- in short

-- a field of the own row, and one that a statement names
abbrev pub own : ℕ → ℕ → Token
own pool field = Own (record { pool = pool; field = field })

abbrev pub field : ℕ → ℕ → Token
field pool number = Field (record { pool = pool; field = number })

abbrev pub number : ℕ → Token
number n = Number (pos n)

-- the number before 0, the least and the greatest one
abbrev pub before_zero : Token
before_zero = Number (negsuc 0)

abbrev pub least : ℤ
least = negsuc 9223372036854775807

abbrev pub greatest : ℤ
greatest = pos 9223372036854775807

-- rows of two and of four fields
abbrev pub row2 : ℤ → ℤ → Row
row2 x y = record { f = x ∷ y ∷ pos 0 ∷ pos 0 ∷ [] }

abbrev pub row4 : ℤ → ℤ → ℤ → ℤ → Row
row4 x y z w = record { f = x ∷ y ∷ z ∷ w ∷ [] }

-- the fields that hold the identifier 7:1, and 5:0
abbrev seven_one : ℤ
seven_one = pos 4294967303

abbrev five : ℤ
five = pos 5

-- ---- expressions

-- the entity 3:2 at tick 40. It has own rows of component 0, two numbers, and of component 1, an identifier; it looks at component 2,
-- two numbers, in which 5:0 and 7:1 are
abbrev here : Setting
here = record {
  profile = p20_12;
  tick = 40;
  entity = id 3 2;
  looked_at = (2, (id 5 0, row2 (pos 50) (pos 51)) ∷ (id 7 1, row2 (pos 70) (pos 71)) ∷ []) ∷ [];
}

abbrev own_now : List (ℕ × Row)
own_now = (0, row2 (pos 12) (negsuc 2)) ∷ (1, row seven_one) ∷ []

-- the values of expressions, one after another
abbrev worth : List Token → List ℤ
worth tokens = (operands_of here own_now tokens).values

-- an operator on two numbers
abbrev of_two : Token → ℤ → ℤ → List ℤ
of_two word x y = worth (word ∷ Number x ∷ Number y ∷ [])

-- a number, the tick, own fields
plain_values : worth (Number (negsuc 4) ∷ Word key.Tick ∷ own 0 0 ∷ own 0 1 ∷ own 1 0 ∷ []) ≡ negsuc 4 ∷ pos 40 ∷ pos 12 ∷ negsuc 2 ∷ seven_one ∷ []
plain_values = refl

-- sums, differences and products wrap
sum_wraps : of_two (Word key.Plus) greatest (pos 1) ++ of_two (Word key.Plus) least (negsuc 0) ++ of_two (Word key.Plus) (pos 2) (negsuc 4)
    ≡ least ∷ greatest ∷ negsuc 2 ∷ []
sum_wraps = refl

difference_wraps : of_two (Word key.Minus) least (pos 1) ++ of_two (Word key.Minus) greatest (negsuc 0) ++ of_two (Word key.Minus) (pos 0) least ++ of_two (Word key.Minus) (pos 2) (pos 5)
    ≡ greatest ∷ least ∷ least ∷ negsuc 2 ∷ []
difference_wraps = refl

product_wraps : of_two (Word key.Times) greatest (pos 2) ++ of_two (Word key.Times) least (negsuc 0) ++ of_two (Word key.Times) (negsuc 2) (pos 4)
    ≡ negsuc 1 ∷ least ∷ negsuc 11 ∷ []
product_wraps = refl

-- a quotient loses its fraction, whatever the signs; by 0 it is 0, and the least number by -1 stays
quotient_truncates : of_two (Word key.Divide) (pos 7) (pos 2) ++ of_two (Word key.Divide) (negsuc 6) (pos 2) ++ of_two (Word key.Divide) (pos 7) (negsuc 1) ++ of_two (Word key.Divide) (negsuc 6) (negsuc 1)
    ≡ pos 3 ∷ negsuc 2 ∷ negsuc 2 ∷ pos 3 ∷ []
quotient_truncates = refl

quotient_at_the_edges : of_two (Word key.Divide) (pos 7) (pos 0) ++ of_two (Word key.Divide) least (pos 0) ++ of_two (Word key.Divide) least (negsuc 0) ++ of_two (Word key.Divide) greatest (negsuc 0) ++ of_two (Word key.Divide) (pos 0) (pos 0)
    ≡ pos 0 ∷ pos 0 ∷ least ∷ negsuc 9223372036854775806 ∷ pos 0 ∷ []
quotient_at_the_edges = refl

-- a remainder has the dividend's sign
remainder_has_the_dividends_sign : of_two (Word key.Remainder) (pos 7) (pos 3) ++ of_two (Word key.Remainder) (negsuc 6) (pos 3) ++ of_two (Word key.Remainder) (pos 7) (negsuc 2) ++ of_two (Word key.Remainder) (negsuc 6) (negsuc 2) ++ of_two (Word key.Remainder) (negsuc 5) (pos 3)
    ≡ pos 1 ∷ negsuc 0 ∷ pos 1 ∷ negsuc 0 ∷ pos 0 ∷ []
remainder_has_the_dividends_sign = refl

remainder_at_the_edges : of_two (Word key.Remainder) (pos 7) (pos 0) ++ of_two (Word key.Remainder) least (negsuc 0) ++ of_two (Word key.Remainder) least (pos 10) ++ of_two (Word key.Remainder) (pos 7) least
    ≡ pos 0 ∷ pos 0 ∷ negsuc 7 ∷ pos 7 ∷ []
remainder_at_the_edges = refl

-- the smaller, the greater, less, equal
smaller : of_two (Word key.Least) (negsuc 0) (pos 1) ++ of_two (Word key.Least) (pos 1) (negsuc 0) ++ of_two (Word key.Least) (pos 4) (pos 4) ++ of_two (Word key.Least) least greatest
    ≡ negsuc 0 ∷ negsuc 0 ∷ pos 4 ∷ least ∷ []
smaller = refl

greater : of_two (Word key.Greatest) (negsuc 0) (pos 1) ++ of_two (Word key.Greatest) (pos 1) (negsuc 0) ++ of_two (Word key.Greatest) (pos 4) (pos 4) ++ of_two (Word key.Greatest) least greatest
    ≡ pos 1 ∷ pos 1 ∷ pos 4 ∷ greatest ∷ []
greater = refl

less : of_two (Word key.Less) (pos 3) (pos 4) ++ of_two (Word key.Less) (pos 4) (pos 4) ++ of_two (Word key.Less) (pos 4) (pos 3) ++ of_two (Word key.Less) least greatest ++ of_two (Word key.Less) (negsuc 0) (negsuc 1)
    ≡ pos 1 ∷ pos 0 ∷ pos 0 ∷ pos 1 ∷ pos 0 ∷ []
less = refl

equal : of_two (Word key.Equal) (pos 4) (pos 4) ++ of_two (Word key.Equal) (pos 4) (negsuc 3) ++ of_two (Word key.Equal) least least ++ of_two (Word key.Equal) (pos 0) (negsuc 0)
    ≡ pos 1 ∷ pos 0 ∷ pos 1 ∷ pos 0 ∷ []
equal = refl

-- operands stand in the order of the text, also those of operators in each other: (12 - 2) - (5 - 40)
in_order : worth (Word key.Minus ∷ Word key.Minus ∷ own 0 0 ∷ number 2 ∷ Word key.Minus ∷ number 5 ∷ Word key.Tick ∷ []) ≡ pos 45 ∷ []
in_order = refl

-- a choice: any number but 0 chooses the first of the two
chosen : worth (Word key.Choice ∷ number 1 ∷ number 8 ∷ number 9 ∷ Word key.Choice ∷ before_zero ∷ number 8 ∷ number 9 ∷ Word key.Choice ∷ number 0 ∷ number 8 ∷ number 9 ∷ [])
    ≡ pos 8 ∷ pos 8 ∷ pos 9 ∷ []
chosen = refl

-- and chooses identifiers too: ? 0 null self
chosen_entity : worth (Word key.Choice ∷ number 0 ∷ Word key.Null ∷ Word key.Oneself ∷ []) ≡ pos 8589934595 ∷ []
chosen_entity = refl

-- the entity itself, and null
self_and_null : worth (Word key.Oneself ∷ Word key.Null ∷ []) ≡ pos 8589934595 ∷ negsuc 0 ∷ []
self_and_null = refl

-- same in index and version: 7:1 is itself, and neither 7:0 nor 8:1; null is null, and no other
same_in_both_parts : worth (Word key.Same ∷ own 1 0 ∷ Number seven_one ∷ Word key.Same ∷ own 1 0 ∷ number 7 ∷ Word key.Same ∷ own 1 0 ∷ number 4294967304 ∷ [])
    ≡ pos 1 ∷ pos 0 ∷ pos 0 ∷ []
same_in_both_parts = refl

same_with_null : worth (Word key.Same ∷ Word key.Null ∷ Word key.Null ∷ Word key.Same ∷ Word key.Null ∷ own 1 0 ∷ Word key.Same ∷ Word key.Oneself ∷ Word key.Null ∷ Word key.Same ∷ Word key.Oneself ∷ Word key.Oneself ∷ [])
    ≡ pos 1 ∷ pos 0 ∷ pos 0 ∷ pos 1 ∷ []
same_with_null = refl

-- an identifier has a row, or none: 7:1 and 5:0 have one; 7:0, a dead version, 6:0 and null have none, nor has the entity itself
has_a_row : worth (Word key.Has ∷ own 1 0 ∷ Pool 2 ∷ Word key.Has ∷ Number five ∷ Pool 2 ∷ Word key.Has ∷ number 7 ∷ Pool 2 ∷ Word key.Has ∷ number 6 ∷ Pool 2 ∷ Word key.Has ∷ Word key.Null ∷ Pool 2 ∷ Word key.Has ∷ Word key.Oneself ∷ Pool 2 ∷ [])
    ≡ pos 1 ∷ pos 1 ∷ pos 0 ∷ pos 0 ∷ pos 0 ∷ pos 0 ∷ []
has_a_row = refl

-- a field of another entity's row, and the last operand where it has none
looked_up : worth (Word key.At ∷ own 1 0 ∷ field 2 1 ∷ number 9 ∷ Word key.At ∷ Number five ∷ field 2 0 ∷ number 9 ∷ Word key.At ∷ number 7 ∷ field 2 0 ∷ number 9 ∷ Word key.At ∷ Word key.Null ∷ field 2 0 ∷ before_zero ∷ [])
    ≡ pos 71 ∷ pos 50 ∷ pos 9 ∷ negsuc 0 ∷ []
looked_up = refl

-- one inside another: the component and the field that are named go with their own word. at (? has 7:1 in 2, 5:0, null) 2.0 (has 6:0 in 2)
looked_up_in_each_other : worth (Word key.At ∷ Word key.Choice ∷ Word key.Has ∷ own 1 0 ∷ Pool 2 ∷ Number five ∷ Word key.Null ∷ field 2 0 ∷ Word key.Has ∷ number 6 ∷ Pool 2 ∷ [])
    ≡ pos 50 ∷ []
looked_up_in_each_other = refl

-- at (at self 2.0 5:0) 2.1 -1: the inner one gives 5:0
default_is_looked_up : worth (Word key.At ∷ Word key.At ∷ Word key.Oneself ∷ field 2 0 ∷ Number five ∷ field 2 1 ∷ before_zero ∷ []) ≡ pos 51 ∷ []
default_is_looked_up = refl

-- ---- bodies

-- what a body does for the entity 3:2, which finds those rows
abbrev done : List (List Token) → Done
done statements = body_done here own_now statements

abbrev done_orders : List (List Token) → List Deferred
done_orders statements = (done statements).orders

abbrev own_after : List (List Token) → List (ℕ × Row)
own_after statements = (done statements).rows

-- a statement behind a test
abbrev pub only_where : Token → List Token → List Token
only_where test statement = Word key.When ∷ test ∷ statement

-- what a statement does by itself, behind tests that aren't 0, and behind one that is
abbrev thrice : List Token → List (List Deferred)
thrice statement = done_orders (statement ∷ []) ∷ done_orders (only_where (number 1) statement ∷ []) ∷ done_orders (only_where before_zero statement ∷ []) ∷ done_orders (only_where (number 0) statement ∷ []) ∷ []

-- these orders, but none behind the test that is 0
abbrev unless_not : List Deferred → List (List Deferred)
unless_not orders = orders ∷ orders ∷ orders ∷ [] ∷ []

-- set 0.1 5: the one field, at once, and no order
set_one_field : done ((Word key.Set ∷ field 0 1 ∷ number 5 ∷ []) ∷ []) ≡ record { rows = (0, row2 (pos 12) (pos 5)) ∷ (1, row seven_one) ∷ []; spawned = false; orders = [] }
set_one_field = refl

-- set 1.0 null
set_an_entity : own_after ((Word key.Set ∷ field 1 0 ∷ Word key.Null ∷ []) ∷ []) ≡ (0, row2 (pos 12) (negsuc 2)) ∷ (1, row (negsuc 0)) ∷ []
set_an_entity = refl

set_behind_a_test : own_after (only_where before_zero (Word key.Set ∷ field 0 1 ∷ number 5 ∷ []) ∷ []) ≡ (0, row2 (pos 12) (pos 5)) ∷ (1, row seven_one) ∷ []
set_behind_a_test = refl

no_set_behind_a_test : done (only_where (number 0) (Word key.Set ∷ field 0 1 ∷ number 5 ∷ []) ∷ []) ≡ done []
no_set_behind_a_test = refl

-- a test of more than one token, and operands behind it: when < 0.1 0.0 set 0.0 - 0.0 0.1
tested_by_an_expression : own_after ((Word key.When ∷ Word key.Less ∷ own 0 1 ∷ own 0 0 ∷ Word key.Set ∷ field 0 0 ∷ Word key.Minus ∷ own 0 0 ∷ own 0 1 ∷ []) ∷ [])
    ≡ (0, row2 (pos 15) (negsuc 2)) ∷ (1, row seven_one) ∷ []
tested_by_an_expression = refl

-- each statement finds what the one before left, in what it sets, tests and orders
statements_in_order : done ((Word key.Set ∷ field 0 0 ∷ number 1 ∷ []) ∷ (Word key.Set ∷ field 0 1 ∷ Word key.Plus ∷ own 0 0 ∷ number 1 ∷ []) ∷ (Word key.Set ∷ field 0 0 ∷ own 0 1 ∷ []) ∷ only_where (own 0 0) (Word key.Add ∷ own 1 0 ∷ field 3 0 ∷ own 0 0 ∷ []) ∷ [])
    ≡ record { rows = (0, row2 (pos 2) (pos 2)) ∷ (1, row seven_one) ∷ []; spawned = false; orders = order.Add (id 7 1) 3 0 (pos 2) ∷ [] }
statements_in_order = refl

-- so two that set fields to each other make both the same
both_the_same : own_after ((Word key.Set ∷ field 0 0 ∷ own 0 1 ∷ []) ∷ (Word key.Set ∷ field 0 1 ∷ own 0 0 ∷ []) ∷ []) ≡ (0, row2 (negsuc 2) (negsuc 2)) ∷ (1, row seven_one) ∷ []
both_the_same = refl

-- an order finds the rows as they are where it stands, and not those that are set later
ordered_before_set : done_orders ((Word key.Kill ∷ own 1 0 ∷ []) ∷ (Word key.Set ∷ field 1 0 ∷ Word key.Null ∷ []) ∷ (Word key.Kill ∷ own 1 0 ∷ []) ∷ [])
    ≡ order.Kill (id 7 1) ∷ order.Kill (id 1048575 4095) ∷ []
ordered_before_set = refl

-- kill self
kills : thrice (Word key.Kill ∷ Word key.Oneself ∷ []) ≡ unless_not (order.Kill (id 3 2) ∷ [])
kills = refl

-- give 1.0 3 5 -1: a row of two fields, and 0 behind them
gives_two_fields : thrice (Word key.Give ∷ own 1 0 ∷ Pool 3 ∷ number 5 ∷ before_zero ∷ []) ≡ unless_not (order.Give (id 7 1) 3 (row2 (pos 5) (negsuc 0)) ∷ [])
gives_two_fields = refl

-- give self 3, of no field, and of four
gives_none_and_four : done_orders ((Word key.Give ∷ Word key.Oneself ∷ Pool 3 ∷ []) ∷ (Word key.Give ∷ Word key.Oneself ∷ Pool 4 ∷ number 1 ∷ number 2 ∷ number 3 ∷ number 4 ∷ []) ∷ [])
    ≡ order.Give (id 3 2) 3 zero_row ∷ order.Give (id 3 2) 4 (row4 (pos 1) (pos 2) (pos 3) (pos 4)) ∷ []
gives_none_and_four = refl

-- give ? has 7:1 in 2 self null, 3, has self in 2: the component that is given is the statement's own
gives_its_own_component : done_orders ((Word key.Give ∷ Word key.Choice ∷ Word key.Has ∷ own 1 0 ∷ Pool 2 ∷ Word key.Oneself ∷ Word key.Null ∷ Pool 3 ∷ Word key.Has ∷ Word key.Oneself ∷ Pool 2 ∷ []) ∷ [])
    ≡ order.Give (id 3 2) 3 (row (pos 0)) ∷ []
gives_its_own_component = refl

-- take 1.0 4
takes : thrice (Word key.Take ∷ own 1 0 ∷ Pool 4 ∷ []) ≡ unless_not (order.Take (id 7 1) 4 ∷ [])
takes = refl

-- send 1.0 2.1 at self 2.0 8: the field that is sent to is the statement's own
sends : thrice (Word key.Send ∷ own 1 0 ∷ field 2 1 ∷ Word key.At ∷ Word key.Oneself ∷ field 2 0 ∷ number 8 ∷ []) ≡ unless_not (order.Send (id 7 1) 2 1 (pos 8) ∷ [])
sends = refl

-- send self 1.0 null: a field of an entity holds -1
sends_null : done_orders ((Word key.Send ∷ Word key.Oneself ∷ field 1 0 ∷ Word key.Null ∷ []) ∷ []) ≡ order.Send (id 3 2) 1 0 (negsuc 0) ∷ []
sends_null = refl

-- add 1.0 3.0 - 0 0.0
adds : thrice (Word key.Add ∷ own 1 0 ∷ field 3 0 ∷ Word key.Minus ∷ number 0 ∷ own 0 0 ∷ []) ≡ unless_not (order.Add (id 7 1) 3 0 (negsuc 11) ∷ [])
adds = refl

spawns : thrice (Word key.Spawn ∷ []) ≡ unless_not (order.Spawn ∷ [])
spawns = refl

-- bear 3 8, behind a spawn; and behind one that another test kept from being done
abbrev bears : List Token
bears = Word key.Bear ∷ Pool 3 ∷ number 8 ∷ []

bears_behind_a_spawn : map (λ statement. done_orders ((Word key.Spawn ∷ []) ∷ statement ∷ [])) (bears ∷ only_where (number 1) bears ∷ only_where before_zero bears ∷ only_where (number 0) bears ∷ [])
    ≡ (order.Spawn ∷ order.Bear 3 (row (pos 8)) ∷ []) ∷ (order.Spawn ∷ order.Bear 3 (row (pos 8)) ∷ []) ∷ (order.Spawn ∷ order.Bear 3 (row (pos 8)) ∷ []) ∷ (order.Spawn ∷ []) ∷ []
bears_behind_a_spawn = refl

bears_nothing_without_a_spawn : thrice bears ≡ [] ∷ [] ∷ [] ∷ [] ∷ []
bears_nothing_without_a_spawn = refl

bears_nothing_before_a_spawn : done_orders (bears ∷ (Word key.Spawn ∷ []) ∷ []) ≡ order.Spawn ∷ []
bears_nothing_before_a_spawn = refl

bears_nothing_behind_a_skipped_spawn : done_orders (only_where (number 0) (Word key.Spawn ∷ []) ∷ bears ∷ []) ≡ []
bears_nothing_behind_a_skipped_spawn = refl

-- one spawn serves each bear behind it, and a later one that is skipped takes nothing back
bears_twice : done_orders ((Word key.Spawn ∷ []) ∷ bears ∷ only_where (number 0) (Word key.Spawn ∷ []) ∷ bears ∷ []) ≡ order.Spawn ∷ order.Bear 3 (row (pos 8)) ∷ order.Bear 3 (row (pos 8)) ∷ []
bears_twice = refl

no_statements : done [] ≡ record { rows = own_now; spawned = false; orders = [] }
no_statements = refl
