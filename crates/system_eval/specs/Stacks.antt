-- Columns of values on a stack. No public clause of the crate cites this file.
use Rattle.std.specs.Prelude.{ℕ, zero, suc, ◌<◌, ◌≤◌, ℤ, pos, List, [], ◌∷◌, map, drop, length, slice_index_or}
use Rattle.world_model.specs.declared.tokens.FieldAt.{FieldAt}
use Rattle.world_model.specs.declared.component.Row.{Row}
use Rattle.row_lang.specs.declared.token.Token.{Token}
use Rattle.row_lang.specs.Values.{Operands, Setting, operands_of}

-- what tokens give in all lanes: a column for each value, the first value's in front, and the components and the fields that are named, which
-- are the same in each lane
pub record Columns : Type 0 where
  pub values : List (List ℤ)
  pub pools : List ℕ
  pub fields : List FieldAt

-- nothing on it
abbrev pub no_columns : Columns
no_columns = record { values = []; pools = []; fields = [] }

-- the number in a lane
abbrev pub int_at : List ℤ → ℕ → ℤ
int_at column lane = slice_index_or column lane (pos 0)

-- what tokens give in a lane
abbrev pub operands_at : Columns → ℕ → Operands
operands_at c lane = record { values = map (λ column. int_at column lane) c.values; pools = c.pools; fields = c.fields }

-- how many values, components and fields a stack has room for, of each
abbrev pub stack_room : ℕ
stack_room = 48

-- what stands for a field where there is none
abbrev pub no_field : FieldAt
no_field = record { pool = 0; field = 0 }

-- the first so many items, the last of them in front
abbrev pub tops : {X : Type 0} → X → List X → ℕ → List X
tops none items zero = []
tops none items (suc height) = slice_index_or items height none ∷ tops none items height

-- a stack is no higher than its room
pub record IsStack (height pool_count field_count : ℕ) : Type 0 where
  pub values : height ≤ stack_room
  pub pools : pool_count ≤ stack_room
  pub fields : field_count ≤ stack_room

-- there is room for one more of each
pub record HasRoom (c : Columns) : Type 0 where
  pub values : length c.values < stack_room
  pub pools : length c.pools < stack_room
  pub fields : length c.fields < stack_room

-- what tokens give at once: so few of each
pub record AreFew (limit : ℕ) (o : Operands) : Type 0 where
  pub values : length o.values ≤ limit
  pub pools : length o.pools ≤ limit
  pub fields : length o.fields ≤ limit

-- whatever the setting, there is room for one more of each in front of any of the tokens
abbrev pub IsShallow : List Token → Type 0
IsShallow tokens = (s : Setting) (rows : List (ℕ × Row)) (place : ℕ) → AreFew 47 (operands_of s rows (drop place tokens))
