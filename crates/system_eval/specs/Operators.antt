-- Words that are operators on two values. No public clause of the crate cites this file: that the language means the same is proved.
use Rattle.std.specs.Prelude.{ℤ, Bool, true, false, int_lt}
use Rattle.std.specs.Int.{w64, int_wrapping_add, int_wrapping_sub, int_wrapping_mul, int_min, int_max}
use Rattle.std.specs.Ordering.{int_eq}
use Rattle.entity_id.specs.declared.entity.Profile.{Profile}
use Rattle.row_lang.specs.declared.token.Keyword.{Keyword}
use Rattle.row_lang.specs.declared.token.Keyword.TheVariants as key
use Rattle.row_lang.specs.Arithmetic.{truth, quotient, remainder}
use Rattle.row_lang.specs.Values.{same_entity}

-- whether a word is an operator on two values
abbrev pub is_operator : Keyword → Bool
is_operator key.Plus = true
is_operator key.Minus = true
is_operator key.Times = true
is_operator key.Divide = true
is_operator key.Remainder = true
is_operator key.Least = true
is_operator key.Greatest = true
is_operator key.Less = true
is_operator key.Equal = true
is_operator key.Same = true
is_operator _ = false

-- what it gives; a word that is none gives the first value
abbrev pub operation : Profile → Keyword → ℤ → ℤ → ℤ
operation profile key.Plus = int_wrapping_add w64
operation profile key.Minus = int_wrapping_sub w64
operation profile key.Times = int_wrapping_mul w64
operation profile key.Divide = quotient
operation profile key.Remainder = remainder
operation profile key.Least = int_min
operation profile key.Greatest = int_max
operation profile key.Less = λ x y. truth (int_lt x y)
operation profile key.Equal = λ x y. truth (int_eq x y)
operation profile key.Same = same_entity profile
operation profile _ = λ x y. x
