-- What has been done in each lane of a batch so far. No public clause of the crate cites this file.
use Rattle.std.specs.Prelude.{◌≡◌, ℕ, zero, suc, ◌<◌, ◌&&◌, not, Bool, true, false, ℤ, pos, if◌then◌else◌, List, [], ◌∷◌, ◌++◌, drop, length, Option, Some, None, option_to_list, IsTrue}
use Rattle.std.specs.List.{AllByRecursion}
use Rattle.entity_id.specs.declared.entity.Entity.{Entity}
use Rattle.entity_id.specs.declared.entity.Profile.{Profile}
use Rattle.entity_id.specs.Fields.{entity_in}
use Rattle.world_model.specs.declared.access.Access.{Access}
use Rattle.world_model.specs.declared.component.Decl.{Decl}
use Rattle.world_model.specs.declared.component.Row.{Row}
use Rattle.world_model.specs.declared.deferred.Deferred.{Deferred}
use Rattle.world_model.specs.declared.deferred.Deferred.TheVariants as order
use Rattle.world_model.specs.Components.{IsDecl}
use Rattle.world_model.specs.Frames.{own_pools}
use Rattle.row_lang.specs.declared.token.Keyword.{Keyword}
use Rattle.row_lang.specs.declared.token.Keyword.TheVariants as key
use Rattle.row_lang.specs.declared.token.Token.{Token}
use Rattle.row_lang.specs.declared.token.Token.TheVariants.{Word}
use Rattle.row_lang.specs.Arithmetic.{is_zero}
use Rattle.row_lang.specs.Bodies.{Done, after_deed, is_deed, padded_row}
use Rattle.row_lang.specs.Places.{is_statement}
use Rattle.row_lang.specs.Values.{Operands, operand, pool_named, field_named}
use Rattle.system_api.specs.Batches.{lanes, entity_at, is_marked}
use Rattle.system_api.specs.Emissions.{Emission}
use Rattle.system_eval.specs.Lanes.{Scenery, own_at, setting_at, given_to, beside, IsOfNoLane}
use Rattle.system_eval.specs.Stacks.{Columns, int_at, operands_at}

-- ---- work on a batch

-- the columns of own rows, whether a spawn was done in each lane, and what was emitted
pub record Work : Type 0 where
  pub columns : List (List Row)
  pub spawned : List Bool
  pub list : List Emission

-- what was done for the entity of a lane, where it has given these orders
abbrev pub done_in : Scenery → Work → List Deferred → ℕ → Done
done_in s work orders lane = record { rows = own_at (own_pools s.access) work.columns lane; spawned = is_marked work.spawned lane; orders = orders }

-- work by which what was done in each lane changes like this; nothing is emitted for other indices than those of marked lanes
pub record Does (s : Scenery) (change : ℕ → Done → Done) (old new : Work) : Type 0 where
  pub columns : length new.columns ≡ length old.columns
  pub rows : (lane : ℕ) → lane < lanes → (orders : List Deferred) → own_at (own_pools s.access) new.columns lane ≡ (change lane (done_in s old orders lane)).rows
  pub spawned : (lane : ℕ) → lane < lanes → (orders : List Deferred) → is_marked new.spawned lane ≡ (change lane (done_in s old orders lane)).spawned
  pub orders : (lane : ℕ) → lane < lanes → IsTrue (is_marked s.marks lane) → (before : List Emission) (orders : List Deferred) →
      given_to (entity_at s.entities lane).index old.list ≡ before ++ beside (entity_at s.entities lane).index orders →
      given_to (entity_at s.entities lane).index new.list ≡ before ++ beside (entity_at s.entities lane).index (change lane (done_in s old orders lane)).orders
  pub others : (index : ℕ) → IsOfNoLane s.marks s.entities index → given_to index new.list ≡ given_to index old.list

-- ---- deeds

-- the order that a word gives, if any: none is born without a spawn
abbrev pub order_given : Profile → Keyword → Operands → Bool → Option Deferred
order_given profile key.Kill o spawned = Some (order.Kill (entity_in profile (operand o 0)))
order_given profile key.Give o spawned = Some (order.Give (entity_in profile (operand o 0)) (pool_named o) (padded_row (drop 1 o.values)))
order_given profile key.Take o spawned = Some (order.Take (entity_in profile (operand o 0)) (pool_named o))
order_given profile key.Send o spawned = Some (order.Send (entity_in profile (operand o 0)) (field_named o).pool (field_named o).field (operand o 1))
order_given profile key.Add o spawned = Some (order.Add (entity_in profile (operand o 0)) (field_named o).pool (field_named o).field (operand o 1))
order_given profile key.Spawn o spawned = Some order.Spawn
order_given profile key.Bear o spawned = if spawned then Some (order.Bear (pool_named o) (padded_row o.values)) else None
order_given profile _ o spawned = None

-- whether a word is `spawn`
abbrev pub is_spawn : Keyword → Bool
is_spawn key.Spawn = true
is_spawn _ = false

-- whether a word is `set`, which gives no order
abbrev pub is_set_word : Keyword → Bool
is_set_word key.Set = true
is_set_word _ = false

-- the word of a token that says what a statement does
abbrev pub deed_word : Token → Option Keyword
deed_word (Word word) = if is_deed word then Some word else None
deed_word _ = None

-- what a word does in a lane where the test isn't 0
abbrev pub deed_in : Scenery → Keyword → List ℤ → Columns → ℕ → Done → Done
deed_in s word test stack lane d = if is_zero (int_at test lane) then d else after_deed (setting_at s lane) word (operands_at stack lane) d

-- the orders that a word gives in a lane: in the marked ones, where the test isn't 0
abbrev pub orders_in : Scenery → Keyword → List ℤ → Columns → List Bool → ℕ → List Deferred
orders_in s word test stack spawned lane =
    if is_marked s.marks lane && not (is_zero (int_at test lane)) then option_to_list (order_given s.profile word (operands_at stack lane) (is_marked spawned lane)) else []

-- what is emitted in the first so many lanes, one after another
unfoldable pub emitted : List Entity → (ℕ → List Deferred) → ℕ → List Emission
emitted entities give zero = []
emitted entities give (suc count) = emitted entities give count ++ beside (entity_at entities count).index (give count)

-- ---- statements

-- whether a statement has a test
abbrev pub is_tested : List Token → Bool
is_tested (Word key.When ∷ tokens) = true
is_tested tokens = false

-- a statement without the word in front of its test
abbrev pub untested : List Token → List Token
untested (Word key.When ∷ tokens) = tokens
untested tokens = tokens

-- what its test is worth, which is the first value; 1 where it has none
abbrev pub test_of : Bool → Operands → ℤ
test_of tested o = if tested then operand o 0 else pos 1

-- the operands of what it does: the test is none
abbrev pub deed_operands : Bool → Operands → Operands
deed_operands tested o = if tested then record o { values = drop 1 o.values } else o

-- a statement under these lists and some components of at most 4 fields each
pub record IsReady (access : Access) (tokens : List Token) : Type 0 where
  pub decls : List Decl
  pub declared : AllByRecursion IsDecl decls
  pub is : is_statement decls access tokens ≡ true
