-- The whole numbers of the language, of 64 bits.
use Rattle.std.specs.Prelude.{ℤ, pos, Bool, if◌then◌else◌, int_rem}
use Rattle.std.specs.Int.{w64, int_wrapping_div}
use Rattle.std.specs.Ordering.{int_eq}

-- what a test is worth: 1 where it holds, else 0
abbrev pub truth : Bool → ℤ
truth holds = if holds then pos 1 else pos 0

-- whether a number is 0, which stands for no
abbrev pub is_zero : ℤ → Bool
is_zero x = int_eq x (pos 0)

-- the quotient, without its fraction; by 0 it is 0. The least number by -1 wraps to itself
abbrev pub quotient : ℤ → ℤ → ℤ
quotient x y = if is_zero y then pos 0 else int_wrapping_div w64 x y

-- the remainder, of the dividend's sign; by 0 it is 0. That of the least number by -1 is 0
abbrev pub remainder : ℤ → ℤ → ℤ
remainder x y = if is_zero y then pos 0 else int_rem x y

-- the second where the first stands for yes, else the third
abbrev pub choice : ℤ → ℤ → ℤ → ℤ
choice test chosen otherwise = if is_zero test then otherwise else chosen
