-- Whole numbers of 64 bits.
use Rattle.std.specs.Prelude.{◌≡◌, ◌++◌, List, ℕ, ℤ, pos, negsuc, ◌<◌, ◌^◌}
use Rattle.std.specs.Fmt.{signed_decimal}
use Rattle.entity_id.specs.Texts.{EndsNumber}

-- a whole number of 64 bits
abbrev pub IsI64 : ℤ → Type 0
IsI64 (pos n) = n < 2 ^ 63
IsI64 (negsuc n) = n < 2 ^ 63

-- a text begins with a whole number of 64 bits in decimal, whole, and this is the rest
pub record IsIntegerFirst (text : List ℕ) (z : ℤ) (rest : List ℕ) : Type 0 where
  pub is : IsI64 z
  pub whole : text ≡ signed_decimal z ++ rest
  pub ended : EndsNumber rest
