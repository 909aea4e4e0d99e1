-- What calls on sources and sinks say of bytes and of faults.
use Rattle.std.specs.Prelude.{◌≡◌, ℕ, ◌+◌, ◌-◌, ◌^◌, ◌≤◌, min, List, ◌++◌, take, length, Option, Some, Result, OnErr, MatchResult}
use Rattle.std.specs.Io.KnownBytes.{Consumes}

-- one more, of a count of 64 bits that stays at its last value
abbrev pub one_more : ℕ → ℕ
one_more count = min (count + 1) (2 ^ 64 - 1)

-- a count of faults rose, or stands at its last value
abbrev pub Rose : ℕ → ℕ → Type 0
Rose before now = one_more before ≤ now

-- a count never falls, and an error comes only where it rose
pub record HasCause {T E : Type 0} (before now : ℕ) (result : Result T E) : Type 0 where
  pub later : before ≤ now
  pub failed : OnErr result (Rose before now)

-- a count rises by one at an error, and stays at an answer
abbrev pub CountsErrors : {T E : Type 0} → ℕ → ℕ → Result T E → Type 0
CountsErrors before now result =
    MatchResult result (λ _. now ≡ before) (λ _. now ≡ one_more before)

-- what a source lost is a list of at most so many bytes
abbrev pub LosesAtMost : Option (List ℕ) → Option (List ℕ) → ℕ → Type 0
LosesAtMost old new most = (given : List ℕ) × Consumes old new given × (length given ≤ most)

-- what a source lost went to the end of a list
abbrev pub AppendsTaken : Option (List ℕ) → Option (List ℕ) → List ℕ → List ℕ → Type 0
AppendsTaken old new before after =
    (given : List ℕ) × Consumes old new given × (after ≡ before ++ given)

-- the bytes are known, and are these
abbrev pub IsKnownAs : Option (List ℕ) → List ℕ → Type 0
IsKnownAs known bytes = known ≡ Some bytes

-- whatever a sink may have held, it may hold with these bytes at the end
abbrev pub Grows : (List ℕ → Type 0) → (List ℕ → Type 0) → List ℕ → Type 0
Grows old new bytes = (held : List ℕ) → old held → new (held ++ bytes)

-- a sink holds what it held
abbrev pub Stays : (List ℕ → Type 0) → (List ℕ → Type 0) → Type 0
Stays old new = (held : List ℕ) → old held → new held

-- a sink holds what it held, and then some front of the bytes
abbrev pub GrowsByFront : (List ℕ → Type 0) → (List ℕ → Type 0) → List ℕ → Type 0
GrowsByFront old new bytes = (n : ℕ) × Grows old new (take n bytes)
