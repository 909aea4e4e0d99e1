-- What readers of parts of a line say.
use Rattle.std.specs.Prelude.{◌≡◌, ℕ, ℤ, true, List, [], ◌∷◌, ◌++◌, ◌≤◌, ◌-◌, take, drop, replicate}
use Rattle.std.specs.List.{flat_map, AllByRecursion}
use Rattle.std.specs.Fmt.{decimal}
use Rattle.entity_id.specs.declared.entity.Profile.{Profile}
use Rattle.entity_id.specs.Cuts.{Lacks}
use Rattle.entity_id.specs.Texts.{EndsNumber}
use Rattle.world_model.specs.declared.component.Kind.{Kind}
use Rattle.world_model.specs.declared.component.Kind.TheVariants.{Int}
use Rattle.world_model.specs.declared.component.Row.{Row}
use Rattle.world_text.specs.FieldValues.{FieldValue}
use Rattle.world_text.specs.Lines.{IsValue, kind_text, value_text, values_text}
use Rattle.world_text.specs.Meaning.{field_of_value, row_of}
use Rattle.world_text.specs.Fitting.{is_of_kind, are_of_kinds}

-- nothing, or a space (32) first
abbrev pub BeginsWithSpace : List ℕ → Type 0
BeginsWithSpace [] = Unit {0}
BeginsWithSpace (byte ∷ bytes) = byte ≡ 32

-- a text cut before its first space
pub record IsWordSplit (text word rest : List ℕ) : Type 0 where
  pub whole : text ≡ word ++ rest
  pub spaceless : Lacks 32 word
  pub spaced : BeginsWithSpace rest

-- a text that spells the first so many of these kinds, each behind a space, where the others are Int
pub record AreKinds (text : List ℕ) (count : ℕ) (kinds : List Kind) : Type 0 where
  pub few : count ≤ 4
  pub padded : drop count kinds ≡ replicate (4 - count) Int
  pub whole : text ≡ flat_map kind_text (take count kinds)

-- a number up to the end of its line, and what stands behind that
pub record IsNumberLine (limit : ℕ) (bytes : List ℕ) (number : ℕ) (after : List ℕ) : Type 0 where
  pub within : number ≤ limit
  pub whole : bytes ≡ decimal number ++ 10 ∷ after

-- a text that begins with a space and a value of this kind, as far as its digits go, up to the rest
pub record IsValueFirst (profile : Profile) (kind : Kind) (text : List ℕ) (value : FieldValue) (rest : List ℕ) : Type 0 where
  pub is : IsValue profile value
  pub of_kind : is_of_kind kind value ≡ true
  pub whole : text ≡ 32 ∷ (value_text profile value ++ rest)
  pub ended : EndsNumber rest

-- a field that a value of this kind at the front of a text is held in
pub record IsFieldFirst (profile : Profile) (kind : Kind) (text : List ℕ) (field : ℤ) (rest : List ℕ) : Type 0 where
  pub value : FieldValue
  pub first : IsValueFirst profile kind text value rest
  pub held : field ≡ field_of_value profile value

-- a text that spells values of these kinds, each behind a space, up to the end of its line, and what stands behind that
pub record AreValuesOf (profile : Profile) (kinds : List Kind) (text : List ℕ) (values : List FieldValue) (after : List ℕ) : Type 0 where
  pub of_kinds : are_of_kinds kinds values ≡ true
  pub each : AllByRecursion (IsValue profile) values
  pub whole : text ≡ values_text profile values ++ 10 ∷ after

-- the row of such values
pub record IsRowOf (profile : Profile) (kinds : List Kind) (text : List ℕ) (row : Row) (after : List ℕ) : Type 0 where
  pub values : List FieldValue
  pub spelled : AreValuesOf profile kinds text values after
  pub held : row ≡ row_of profile values
