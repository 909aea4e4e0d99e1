-- Which texts are decimal numbers.
use Rattle.std.proofs.Common.{◌≡◌, ℕ, zero, suc, ◌+◌, ◌-◌, ◌*◌, ◌^◌, ◌<◌, ◌≤◌, List, take, length, get_or, sym, ap, subst, ◌∙◌, arith}
use Rattle.std.specs.Fmt.{decimal}
use Rattle.std.specs.Char.{digit_value}
use Rattle.std.specs.Str.Parse.{AllDigits, digits_value}
use Rattle.std.proofs.lemmas.Str.Parse.{IsNumeralModel, numerals_by_value, tells_digits, digits_value_short}
use Rattle.std.proofs.lemmas.Int.Digits.{digits_value_more, digits_more}
use Rattle.std.proofs.lemmas.Fmt.{first_decimal, decimal_digit, decimal-digits_value}
use Rattle.std.proofs.lemmas.Bool.Decides.{nat_tests}
use Rattle.std.proofs.lemmas.List.{length-take-le}
use Rattle.entity_id.specs.Texts.{BeginsWithDigits}

own : IsNumeralModel (AllDigits 10) (digits_value 10)
own = numerals_by_value _ tells_digits

pub not_padded : (token : List ℕ) (n : ℕ) → n < 2 ^ 64 → token ≡ decimal n → 1 < length token → get_or token 0 0 ≡ 48 → ⊥
not_padded token zero small e long padded = omega (arith, ap length (e ∙ decimal_digit 0 (omega arith)))
not_padded token (suc n) small e long padded = omega (arith, first_decimal (suc n) (omega arith) small, ap (λ (t : List ℕ). get_or t 0 0) e)

value_of_digit : (c : ℕ) → 48 ≤ c → c ≤ 57 → digit_value c ≡ c - 48
value_of_digit c low high = grind (arith, nat_tests)

pub value_with_digit : (token : List ℕ) (i : ℕ) → i < length token → 48 ≤ get_or token i 0 → get_or token i 0 ≤ 57 → digits_value 10 (take (i + 1) token) ≡ 10 * digits_value 10 (take i token) + (get_or token i 0 - 48)
value_with_digit token i within low high = omega (arith, digits_value_more 10 token i within, value_of_digit (get_or token i 0) low high)

pub digits_with_digit : (token : List ℕ) (i : ℕ) → i < length token → 48 ≤ get_or token i 0 → get_or token i 0 ≤ 57 → AllDigits 10 (take i token) → AllDigits 10 (take (i + 1) token)
digits_with_digit token i within low high h = digits_more 10 token i within h (omega (arith, value_of_digit (get_or token i 0) low high))

pub decimal_from_digits : (token : List ℕ) → AllDigits 10 token → 0 < length token → (get_or token 0 0 ≡ 48 → length token ≡ 1) → digits_value 10 token < 2 ^ 64 → token ≡ decimal (digits_value 10 token)
decimal_from_digits token digits some unpadded small = sym (decimal-digits_value own token digits some unpadded small)

-- one digit more at the front of a text
pub one_more_digit : (text : List ℕ) (number at digit : ℕ) → BeginsWithDigits text number at → at < length text → 48 ≤ get_or text at 0 → get_or text at 0 ≤ 57 → digit ≡ get_or text at 0 - 48 → BeginsWithDigits text (10 * number + digit) (at + 1)
one_more_digit text number at digit known within low high is = record {
  inside = omega (arith, within);
  digits = digits_with_digit text at within low high known.digits;
  value_is = omega (arith, value_with_digit text at within low high, known.value_is, is);
}

-- so many digits have a value of 64 bits, and one digit more has
pub few_digits : (text : List ℕ) (number at : ℕ) → BeginsWithDigits text number at → at ≤ 18 → number < 10 ^ 18
few_digits text number at known few =
    subst (λ n. n < 10 ^ 18) (sym known.value_is) (digits_value_short own (take at text) 18 known.digits (omega (arith, few, length-take-le at text known.inside)))
