-- The lowest bit of a mask from a place on, and the highest below one.
use Rattle.std.proofs.Common.{◌≡◌, ℕ, suc, ◌+◌, ◌-◌, ◌*◌, ◌/◌, ◌%◌, ◌^◌, ◌<◌, ◌≤◌, sym, ap, ap₂, subst, ◌∙◌, inl, inr, arith, min, w64}
use Rattle.std.specs.Int.{bit_at, trailing_zeros, leading_zeros}
use Rattle.std.specs.Int.Bits.{bit_and}
use Rattle.std.specs.Int.Count.{count_leading_zeros, leading_of_zero, trailing_of_zero}
use Rattle.std.proofs.lemmas.Bool.{cases_lt}
use Rattle.std.proofs.lemmas.Nat.{shr-shr, shr_le, le-div, div_below, leading_top, pow_pos, and_le_l}
use Rattle.std.proofs.Math.Pow.{pow_mono}
use Rattle.std.proofs.lemmas.Nat.Bits.{bit_at-zero, bit_at-lt, bit_at_and, bit_at_ones, bit_at_ones_above, bit_at-trailing_zeros, bit_at_above}

-- ---- from a place on

shifted : (m from k : ℕ) → bit_at (m / 2 ^ from) k ≡ bit_at m (from + k)
shifted m from k = ap (λ n. n % 2) (shr-shr m from k)

-- the place of the lowest bit, counted from this one
pub record IsNext (m from step : ℕ) : Type 0 where
  pub set : from + step < 32 → bit_at m (from + step) ≡ 1
  pub clear : (place : ℕ) → from ≤ place → place < from + step → bit_at m place ≡ 0

pub next_is : (m from : ℕ) → from ≤ 32 → m < 2 ^ 32 → IsNext m from (trailing_zeros w64 (m / 2 ^ from))
next_is m from few small = elim (cases_lt 0 (m / 2 ^ from)) [
  | inl some ↦
      let fits : m / 2 ^ from < 2 ^ 64 = (let le : m / 2 ^ from ≤ m = shr_le m from in omega arith) in
      let lowest = bit_at-trailing_zeros w64 (m / 2 ^ from) some fits in
      record {
        set = λ low. sym (shifted m from (trailing_zeros w64 (m / 2 ^ from))) ∙ lowest.1;
        clear = λ place high low.
            (let there : from + (place - from) ≡ place = omega arith in
            ap (bit_at m) (sym there) ∙ sym (shifted m from (place - from)) ∙ lowest.2 (place - from) (omega arith));
      }
  | inr none ↦
      let zero_is : m / 2 ^ from ≡ 0 = omega arith in
      let far : trailing_zeros w64 (m / 2 ^ from) ≡ 64 = ap (trailing_zeros w64) zero_is ∙ trailing_of_zero 64 in
      record {
        set = λ low. absurd (omega arith);
        clear = λ place high low.
            (let there : from + (place - from) ≡ place = omega arith in
            ap (bit_at m) (sym there) ∙ sym (shifted m from (place - from)) ∙ ap (λ n. bit_at n (place - from)) zero_is ∙ bit_at-zero (place - from));
      }
]

-- ---- before a place

-- the bits below a place
cut_low : (m end i : ℕ) → i < end → bit_at (bit_and m (2 ^ end - 1)) i ≡ bit_at m i
cut_low m end i low = bit_at_and m (2 ^ end - 1) i ∙ ap (min (bit_at m i)) (bit_at_ones end i low) ∙ (let b : bit_at m i < 2 = bit_at-lt m i in omega arith)

cut_high : (m end i : ℕ) → end ≤ i → bit_at (bit_and m (2 ^ end - 1)) i ≡ 0
cut_high m end i high = bit_at_and m (2 ^ end - 1) i ∙ ap (min (bit_at m i)) (bit_at_ones_above end i high) ∙ (let b : bit_at m i < 2 = bit_at-lt m i in omega arith)

top_set : (a j : ℕ) → 2 ^ j ≤ a → a < 2 ^ suc j → bit_at a j ≡ 1
top_set a j low high =
    let some : 0 < 2 ^ j = pow_pos j in
    let one : 1 ≤ a / 2 ^ j = le-div 1 a (2 ^ j) some (omega arith) in
    let less : a / 2 ^ j < 2 = div_below a (2 ^ j) 2 some (omega arith) in
    let is : a / 2 ^ j ≡ 1 = omega arith in
    ap (λ n. n % 2) is

-- past the highest bit below a place
pub record IsPastLast (m end r : ℕ) : Type 0 where
  pub falls : r ≤ end
  pub set : 0 < r → bit_at m (r - 1) ≡ 1
  pub clear : (place : ℕ) → r ≤ place → place < end → bit_at m place ≡ 0

past_last_is : (m end : ℕ) → bit_and m (2 ^ end - 1) < 2 ^ 64 → IsPastLast m end (64 - leading_zeros w64 (bit_and m (2 ^ end - 1)))
past_last_is m end fits = elim (cases_lt 0 (bit_and m (2 ^ end - 1))) [
  | inl some ↦
      let a = bit_and m (2 ^ end - 1) in
      let top = leading_top 64 a some fits in
      let j = top.0 in
      let here : 64 - leading_zeros w64 a ≡ suc j = (let e : count_leading_zeros 64 a + suc j ≡ 64 = top.1 in omega arith) in
      let set : bit_at a j ≡ 1 = top_set a j top.2 top.3 in
      let low : j < end = elim (cases_lt j end) [
        | inl low ↦ low
        | inr past ↦ (let none : bit_at a j ≡ 0 = cut_high m end j past in absurd (omega arith))
      ] in
      subst (IsPastLast m end) (sym here) (record {
        falls = omega arith;
        set = λ more. ap (bit_at m) (let e : suc j - 1 ≡ j = omega arith in e) ∙ sym (cut_low m end j low) ∙ set;
        clear = λ place high below. sym (cut_low m end place below) ∙ bit_at_above a (suc j) place top.3 high;
      })
  | inr none ↦
      let zero_is : bit_and m (2 ^ end - 1) ≡ 0 = omega arith in
      let here : 64 - leading_zeros w64 (bit_and m (2 ^ end - 1)) ≡ 0 = ap (λ n. 64 - leading_zeros w64 n) zero_is ∙ ap (λ n. 64 - n) (leading_of_zero 64) in
      subst (IsPastLast m end) (sym here) (record {
        falls = omega arith;
        set = λ more. absurd (omega arith);
        clear = λ place high below. sym (cut_low m end place below) ∙ ap (λ n. bit_at n place) zero_is ∙ bit_at-zero place;
      })
]

-- as it is computed
pub past_last_at : (m n end : ℕ) → end ≤ 32 → m < 2 ^ 32 → n ≡ m → IsPastLast m end (64 - leading_zeros w64 (bit_and n (1 * 2 ^ end % 2 ^ 64 - 1)))
past_last_at m n end few small is =
    let most : 2 ^ end ≤ 2 ^ 32 = pow_mono few in
    let one : 1 * 2 ^ end % 2 ^ 64 ≡ 2 ^ end = omega arith in
    let le : bit_and m (2 ^ end - 1) ≤ m = and_le_l m (2 ^ end - 1) in
    let same : bit_and n (1 * 2 ^ end % 2 ^ 64 - 1) ≡ bit_and m (2 ^ end - 1) = ap₂ (λ a b. bit_and a (b - 1)) is one in
    subst (λ a. IsPastLast m end (64 - leading_zeros w64 a)) (sym same) (past_last_is m end (omega arith))
