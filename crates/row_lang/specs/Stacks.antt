-- What the reader of a statement does with its open places. No public clause cites this module.
use Rattle.std.specs.Prelude.{◌≡◌, ℕ, ◌+◌, ◌*◌, ◌≤◌, Bool, true, false, List, [], ◌∷◌, ◌++◌, length, Option, MatchOption}
use Rattle.row_lang.specs.declared.token.Place.{Place}
use Rattle.row_lang.specs.declared.token.Place.TheVariants.{Statement, Deed, Value, Looked, LookedField, Written, Sent, Raised, Named, Given}

-- how many places stand open at once where this one is filled, at most
abbrev pub room : Place → ℕ
room (Value kind levels) = 1 + 2 * levels
room Looked = 1
room (LookedField kind) = 1
room Written = 33
room Sent = 33
room Raised = 33
room Named = 1
room Given = 36
room Deed = 36
room Statement = 37

-- how many places a reader has room for
abbrev pub place_limit : ℕ
place_limit = 48

-- a stack of places, the first one on top, needs no more than that at any time
abbrev pub HaveRoom : List Place → Type 0
HaveRoom [] = Unit {0}
HaveRoom (place ∷ places) = (length places + room place ≤ place_limit) × HaveRoom places

-- a stack after a token: as before where it opens nothing, else with the places that it opens on top
abbrev pub Opens : Option (List Place) → List Place → List Place → Bool → Type 0
Opens places before after result = MatchOption places (result ≡ false) (λ more. (result ≡ true) × (after ≡ more ++ before))
