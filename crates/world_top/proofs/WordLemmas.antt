-- Numbers in the program's words.
use Rattle.std.proofs.Common.{◌≡◌, ◌≢◌, ℕ, ◌^◌, ◌<◌, ◌≤◌, ◌&&◌, true, false, Bool, List, Some, None, leb, refl, sym, ap, ◌∙◌, arith, if◌then◌else◌}
use Rattle.std.specs.Fmt.{decimal}
use Rattle.std.specs.Str.{bytes_eq}
use Rattle.std.specs.Str.Parse.{digits_value}
use Rattle.std.proofs.lemmas.Bool.{and_parts, and_from, leb-true, le-leb, false≢true}
use Rattle.std.proofs.lemmas.Fmt.{decimal_is_IsNumeral}
use Rattle.std.proofs.lemmas.Slice.Eq.{bytes_eq-Decides}
use Rattle.world_top.specs.Words.{number_between}

picked : (test : Bool) (m n : ℕ) → test ≡ true → m ≡ n → (if test then Some m else None) ≡ Some n
picked true m n holds same = ap Some same
picked false m n holds same = absurd (false≢true holds)

not_picked : (test : Bool) (n : ℕ) → (test ≡ true → ⊥) → (if test then Some n else None) ≡ None
not_picked true n fails = absurd (fails refl)
not_picked false n fails = refl

-- a word that spells a number within its bounds is that number
pub number_is : (least greatest n : ℕ) (word : List ℕ) → greatest < 2 ^ 64 → least ≤ n → n ≤ greatest → word ≡ decimal n → number_between least greatest word ≡ Some n
number_is least greatest n word small low high spelled =
    let number = digits_value 10 word in
    let value : number ≡ n = ap (digits_value 10) spelled ∙ (decimal_is_IsNumeral n (omega (arith, small, high))).1 in
    let same : bytes_eq (decimal number) word ≡ true = (bytes_eq-Decides (decimal number) word).1 (ap decimal value ∙ sym spelled) in
    let within : (leb least number && leb number greatest) ≡ true =
    and_from (leb least number) (leb number greatest) (le-leb least number (omega (arith, value, low))) (le-leb number greatest (omega (arith, value, high))) in
    picked (bytes_eq (decimal number) word && (leb least number && leb number greatest)) number n (and_from (bytes_eq (decimal number) word) (leb least number && leb number greatest) same within) value

-- a word that spells no number within its bounds is none
pub number_is_none : (least greatest : ℕ) (word : List ℕ) → ((n : ℕ) → least ≤ n → n ≤ greatest → word ≢ decimal n) → number_between least greatest word ≡ None
number_is_none least greatest word none =
    let number = digits_value 10 word in
    not_picked (bytes_eq (decimal number) word && (leb least number && leb number greatest)) number (λ holds.
    let parts = and_parts (bytes_eq (decimal number) word) (leb least number && leb number greatest) holds in
    let bounds = and_parts (leb least number) (leb number greatest) parts.1 in
    none number (leb-true least number bounds.0) (leb-true number greatest bounds.1) (sym ((bytes_eq-Decides (decimal number) word).0 parts.0)))
