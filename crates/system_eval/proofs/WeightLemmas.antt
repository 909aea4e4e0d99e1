-- How many values, components and fields the tokens of a place give at most, and the room that they need.
use Rattle.std.proofs.Common.{ℕ, ◌≡◌, ◌+◌, ◌*◌, ◌≤◌, Bool, true, false, List, [], ◌∷◌, ◌++◌, length, arith}
use Rattle.row_lang.specs.declared.token.Place.{Place}
use Rattle.row_lang.specs.declared.token.Place.TheVariants.{Statement, Deed, Value, Looked, LookedField, Written, Sent, Raised, Named, Given}
use Rattle.row_lang.specs.declared.token.Token.{Token}
use Rattle.row_lang.specs.declared.token.Token.TheVariants.{Word}
use Rattle.row_lang.specs.Bodies.{is_deed}
use Rattle.row_lang.specs.Values.{Operands}

-- ---- what places weigh

-- how many values the tokens of a place give at most
abbrev pub values_of : Place → ℕ
values_of (Value kind levels) = 1
values_of Written = 1
values_of Sent = 1
values_of Raised = 1
values_of Given = 4
values_of Deed = 5
values_of Statement = 6
values_of _ = 0

-- how many components
abbrev pub pools_of : Place → ℕ
pools_of Looked = 1
pools_of Named = 1
pools_of Given = 1
pools_of Deed = 1
pools_of Statement = 1
pools_of _ = 0

-- how many fields
abbrev pub fields_of : Place → ℕ
fields_of (LookedField kind) = 1
fields_of Written = 1
fields_of Sent = 1
fields_of Raised = 1
fields_of Deed = 1
fields_of Statement = 1
fields_of _ = 0

-- how many of one sort
abbrev pub weight : Place → ℕ
weight Given = 4
weight Deed = 5
weight Statement = 6
weight _ = 1

-- how many of one sort there are at once while the place is filled
abbrev pub reach : Place → ℕ
reach (Value kind levels) = 1 + 2 * levels
reach Written = 33
reach Sent = 33
reach Raised = 33
reach Given = 36
reach Deed = 37
reach Statement = 38
reach _ = 1

-- whether no word of a statement fits a place
abbrev pub is_quiet : Place → Bool
is_quiet Statement = false
is_quiet Deed = false
is_quiet _ = true

-- whether a token is a word that says what a statement does
abbrev pub is_deed_token : Token → Bool
is_deed_token (Word word) = is_deed word
is_deed_token _ = false

-- the weights of places, added
abbrev pub added : (Place → ℕ) → List Place → ℕ
added of [] = 0
added of (place ∷ places) = of place + added of places

pub added-append : (of : Place → ℕ) (more places : List Place) → added of (more ++ places) ≡ added of more + added of places
added-append of [] places = omega arith
added-append of (place ∷ more) places = let behind = added-append of more places in omega (arith, behind)

-- there is room for all that stands open while the places are filled, the first one first
abbrev pub HaveReach : List Place → Type 0
HaveReach [] = Unit {0}
HaveReach (place ∷ places) = (added weight places + reach place ≤ 47) × HaveReach places

-- operands of which there are at most so many values, components and fields
pub record Within (a b c : ℕ) (o : Operands) : Type 0 where
  pub values : length o.values ≤ a
  pub pools : length o.pools ≤ b
  pub fields : length o.fields ≤ c

-- ---- weights

pub light : (place : Place) → (values_of place ≤ weight place) × (pools_of place ≤ weight place) × (fields_of place ≤ weight place) × (weight place ≤ reach place)
light Statement = (omega arith, omega arith, omega arith, omega arith)
light Deed = (omega arith, omega arith, omega arith, omega arith)
light (Value kind levels) = (omega arith, omega arith, omega arith, omega arith)
light Looked = (omega arith, omega arith, omega arith, omega arith)
light (LookedField kind) = (omega arith, omega arith, omega arith, omega arith)
light Written = (omega arith, omega arith, omega arith, omega arith)
light Sent = (omega arith, omega arith, omega arith, omega arith)
light Raised = (omega arith, omega arith, omega arith, omega arith)
light Named = (omega arith, omega arith, omega arith, omega arith)
light Given = (omega arith, omega arith, omega arith, omega arith)

pub all_light : (of : Place → ℕ) → ((place : Place) → of place ≤ weight place) → (places : List Place) → added of places ≤ added weight places
all_light of each [] = omega arith
all_light of each (place ∷ places) = let here = each place in let behind = all_light of each places in omega (arith, here, behind)

pub bounded : (places : List Place) → HaveReach places → added weight places ≤ 47
bounded [] have = omega arith
bounded (place ∷ places) have = let own = (light place).3 in omega (arith, own, have.0)
