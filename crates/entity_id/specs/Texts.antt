-- Numbers and identifiers as text, alone and at the front of a longer text.
use Rattle.std.specs.Prelude.{◌≡◌, ◌<◌, ◌≤◌, ◌⊎◌, ℕ, List, [], ◌++◌, ◌∷◌, length, take, if◌then◌else◌, codes}
use Rattle.std.specs.Fmt.{decimal}
use Rattle.std.specs.Str.Parse.{AllDigits, digits_value}
use Rattle.entity_id.specs.declared.entity.Profile.{Profile}
use Rattle.entity_id.specs.declared.entity.Entity.{Entity}
use Rattle.entity_id.specs.Identifiers.{IsOfProfile, null, is_same}

-- `null`, or index and version in decimal with a colon (58) between them
abbrev pub entity_text : Profile → Entity → List ℕ
entity_text profile entity = if is_same entity (null profile) then codes "null" else decimal entity.index ++ (58 ∷ decimal entity.version)

-- nothing, or a byte first that is no digit
abbrev pub EndsNumber : List ℕ → Type 0
EndsNumber [] = Unit {0}
EndsNumber (byte ∷ bytes) = (byte < 48) ⊎ (57 < byte)

-- a text begins with so many digits, leading zeros among them, of this value
pub record BeginsWithDigits (text : List ℕ) (value count : ℕ) : Type 0 where
  pub inside : count ≤ length text
  pub digits : AllDigits 10 (take count text)
  pub value_is : value ≡ digits_value 10 (take count text)

-- a text begins with a number of at most the limit in decimal, whole, and this is the rest
pub record IsNumberFirst (limit : ℕ) (text : List ℕ) (n : ℕ) (rest : List ℕ) : Type 0 where
  pub within : n ≤ limit
  pub whole : text ≡ decimal n ++ rest
  pub ended : EndsNumber rest

-- a text begins with the two parts of an identifier of the profile in decimal, a colon between them, and this is the rest
pub record ArePartsFirst (profile : Profile) (text : List ℕ) (entity : Entity) (rest : List ℕ) : Type 0 where
  pub of_profile : IsOfProfile profile entity
  pub whole : text ≡ decimal entity.index ++ (58 ∷ (decimal entity.version ++ rest))
  pub ended : EndsNumber rest

-- a text begins with the text of an identifier of the profile, whole, and this is the rest
pub record IsEntityFirst (profile : Profile) (text : List ℕ) (entity : Entity) (rest : List ℕ) : Type 0 where
  pub of_profile : IsOfProfile profile entity
  pub whole : text ≡ entity_text profile entity ++ rest
  pub ended : EndsNumber rest
