-- Whole numbers in decimal, alone and at the front of a text.
use Rattle.std.proofs.Common.{◌≡◌, ◌≢◌, ℕ, ℤ, pos, negsuc, suc, ◌-◌, ◌^◌, ◌<◌, List, [], ◌∷◌, ◌++◌, drop, sym, ap, ◌∙◌, arith}
use Rattle.std.specs.Fmt.{decimal, signed_decimal}
use Rattle.std.proofs.lemmas.List.{append-nil}
use Rattle.entity_id.specs.Texts.{EndsNumber, IsNumberFirst}
use Rattle.entity_id.proofs.FrontLemmas.{digit_first, same_number}
use Rattle.world_model.specs.Integers.{IsI64, IsIntegerFirst}

no_minus : (tail rest : List ℕ) (n : ℕ) → n < 2 ^ 64 → 45 ∷ tail ≢ decimal n ++ rest
no_minus tail rest n small e = let digit = digit_first n 45 tail rest small e in omega (arith, digit.0)

-- one text begins with one whole number
pub same_integer : (a b : ℤ) (x y : List ℕ) → IsI64 a → IsI64 b → EndsNumber x → EndsNumber y → signed_decimal a ++ x ≡ signed_decimal b ++ y → (a ≡ b) × (x ≡ y)
same_integer (pos m) (pos n) x y g h p q e =
    let same = same_number m n x y (omega arith) (omega arith) p q e in
    (ap pos same.0, same.1)
same_integer (pos m) (negsuc n) x y g h p q e = absurd (no_minus (decimal (suc n) ++ y) x m (omega arith) (sym e))
same_integer (negsuc m) (pos n) x y g h p q e = absurd (no_minus (decimal (suc m) ++ x) y n (omega arith) e)
same_integer (negsuc m) (negsuc n) x y g h p q e =
    let same = same_number (suc m) (suc n) x y (omega arith) (omega arith) p q (ap (drop 1) e) in
    let here : m ≡ n = omega (arith, same.0) in
    (ap negsuc here, same.1)

-- one text spells one number
pub signed_decimal_injective : (a b : ℤ) → IsI64 a → IsI64 b → signed_decimal a ≡ signed_decimal b → a ≡ b
signed_decimal_injective a b p q e = (same_integer a b [] [] p q tt tt (ap (λ t. t ++ []) e)).0

-- a text that is a whole number begins with it, and nothing stands behind
pub integer_alone : (z : ℤ) (text : List ℕ) → IsI64 z → text ≡ signed_decimal z → IsIntegerFirst text z []
integer_alone z text is e = record { is = is; whole = e ∙ sym (append-nil (signed_decimal z)); ended = tt }

-- behind a minus sign stands a magnitude above 0
pub minus_first : (text tail : List ℕ) (z : ℤ) (rest : List ℕ) → text ≡ 45 ∷ tail → IsIntegerFirst text z rest → (n : ℕ) × IsNumberFirst (2 ^ 63) tail (suc n) rest
minus_first text tail (pos n) rest minus first = absurd (no_minus tail rest n (let small : n < 2 ^ 63 = first.is in omega arith) (sym minus ∙ first.whole))
minus_first text tail (negsuc n) rest minus first =
    let small : n < 2 ^ 63 = first.is in
    (n, record { within = omega arith; whole = ap (drop 1) (sym minus ∙ first.whole); ended = first.ended })

-- no whole number is spelled `-0`
pub no_minus_zero : (text tail behind : List ℕ) (n : ℕ) (z : ℤ) (rest : List ℕ) → text ≡ 45 ∷ tail → IsNumberFirst (2 ^ 63) tail n behind → n ≡ 0 → IsIntegerFirst text z rest → ⊥
no_minus_zero text tail behind n z rest minus spelled none first =
    let magnitude = minus_first text tail z rest minus first in
    let same = same_number n (suc magnitude.0) behind rest (omega (arith, spelled.within)) (omega (arith, magnitude.1.within)) spelled.ended magnitude.1.ended (sym spelled.whole ∙ magnitude.1.whole) in
    omega (arith, same.0)

-- without a minus sign it is its own magnitude
pub plain_first : (text : List ℕ) (z : ℤ) (rest : List ℕ) → ((tail : List ℕ) → text ≢ 45 ∷ tail) → IsIntegerFirst text z rest → (n : ℕ) × IsNumberFirst (2 ^ 63 - 1) text n rest
plain_first text (pos n) rest plain first =
    let small : n < 2 ^ 63 = first.is in
    (n, record { within = omega arith; whole = first.whole; ended = first.ended })
plain_first text (negsuc n) rest plain first = absurd (plain (decimal (suc n) ++ rest) first.whole)
