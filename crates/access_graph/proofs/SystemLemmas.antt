-- Sets of systems as the bits of a number.
use Rattle.std.proofs.Common.{◌≡◌, ℕ, zero, suc, ◌+◌, ◌-◌, ◌*◌, ◌/◌, ◌%◌, ◌^◌, ◌<◌, ◌≤◌, min, max, Bool, true, false, not, ◌&&◌, ◌||◌, cond, ltb, eqb, refl, sym, ap, ◌∙◌, inl, inr, arith}
use Rattle.std.specs.Int.{bit_at, bit_not, trailing_zeros, w64}
use Rattle.std.specs.Int.RustNames.{bit_or}
use Rattle.std.specs.Int.Bits.{bit_and}
use Rattle.std.specs.List.{list_any, filter, range_with_len}
use Rattle.std.specs.FinSet as set
use Rattle.std.specs.Ordering.{nat_cmp}
use Rattle.std.specs.Cmp.{nat_cmp_total, unsigned_tied}
use Rattle.std.proofs.lemmas.Bool.{cases_lt, cases_eq, ltb-true, lt-ltb, le-ltb, eqb-true, eq-eqb, ne_eqb, or_left, or_right, or_cases, both_ways, true≢false}
use Rattle.std.proofs.lemmas.Bool.Decides.{same_from_decides}
use Rattle.std.proofs.lemmas.Map.Views.{any-filter_same}
use Rattle.std.proofs.lemmas.Nat.{pow-add}
use Rattle.std.proofs.Math.Nat.{div-div-eq-div-mul}
use Rattle.std.proofs.lemmas.Nat.Bits.{bit_at-trailing_zeros, bit_at-lt, bit_at-zero, bit_at_and, bit_at_or, bit_at_not, bit_at_above, bit_at_set_same, bit_at_set_other, same_from_bits}
use Rattle.access_graph.specs.Systems.{SystemSet, systems_of}

-- ---- numbers in a range

in_range : (q from n : ℕ) → from ≤ q → q < from + n → list_any (λ y. eqb y q) (range_with_len from n) ≡ true
in_range q from zero low high = absurd (omega arith)
in_range q from (suc n) low high = elim (cases_eq from q) [
  | inl same ↦ or_left (eqb from q) _ (eq-eqb from q same)
  | inr apart ↦ or_right (eqb from q) _ (in_range q (from + 1) n (omega arith) (omega arith))
]

only_in_range : (q from n : ℕ) → list_any (λ y. eqb y q) (range_with_len from n) ≡ true → (from ≤ q) × (q < from + n)
only_in_range q from zero h = absurd (true≢false (sym h))
only_in_range q from (suc n) h = elim (or_cases (eqb from q) _ h) [
  | inl same ↦ let e = eqb-true from q same in (omega arith, omega arith)
  | inr later ↦ let rest = only_in_range q (from + 1) n later in (omega (arith, rest.0), omega (arith, rest.1))
]

range_has : (q n : ℕ) → list_any (λ y. eqb y q) (range_with_len 0 n) ≡ ltb q n
range_has q n = same_from_decides {P = q < n} _ _
    ((λ h. let found = only_in_range q 0 n h in omega (arith, found.1)), (λ h. in_range q 0 n (omega arith) (omega arith)))
    (ltb-true q n, lt-ltb q n)

-- ---- members

pub contains-systems_of : (bits q : ℕ) → set.contains (systems_of bits) q ≡ (eqb (bit_at bits q) 1 && ltb q 64)
unfolding systems_of
contains-systems_of bits q =
    set.contains-from_list_nat (filter (λ number. eqb (bit_at bits number) 1) (range_with_len 0 64)) q
    ∙ any-filter_same (λ y. eqb y q) (λ number. eqb (bit_at bits number) 1) (eqb (bit_at bits q) 1) (λ k same. ap (λ n. eqb (bit_at bits n) 1) (eqb-true k q same)) (range_with_len 0 64)
    ∙ ap (λ b. eqb (bit_at bits q) 1 && b) (range_has q 64)

-- equal where they have the same systems below the limit
same_below : (bits : ℕ) (systems : SystemSet) → ((q : ℕ) → q < 64 → eqb (bit_at bits q) 1 ≡ set.contains systems q)
    → ((q : ℕ) → 64 ≤ q → set.contains systems q ≡ false) → systems_of bits ≡ systems
same_below bits systems below above = set.same_set nat_cmp_total set.nat_cmp-IsAntisymmetric _ _ each
  where
    and_true : (x : Bool) → (x && true) ≡ x
    and_true true = refl
    and_true false = refl

    and_false : (x : Bool) → (x && false) ≡ false
    and_false true = refl
    and_false false = refl

    each : (q : ℕ) → set.contains (systems_of bits) q ≡ set.contains systems q
    each q = elim (cases_lt q 64) [
      | inl low ↦ contains-systems_of bits q ∙ ap (λ b. eqb (bit_at bits q) 1 && b) (lt-ltb q 64 low) ∙ and_true _ ∙ below q low
      | inr high ↦ contains-systems_of bits q ∙ ap (λ b. eqb (bit_at bits q) 1 && b) (le-ltb q 64 high) ∙ and_false _ ∙ sym (above q high)
    ]

pub contains_below : (bits q : ℕ) → q < 64 → set.contains (systems_of bits) q ≡ eqb (bit_at bits q) 1
contains_below bits q low = contains-systems_of bits q ∙ ap (λ b. eqb (bit_at bits q) 1 && b) (lt-ltb q 64 low) ∙ and_true (eqb (bit_at bits q) 1)
  where
    and_true : (x : Bool) → (x && true) ≡ x
    and_true true = refl
    and_true false = refl

pub contains_above : (bits q : ℕ) → 64 ≤ q → set.contains (systems_of bits) q ≡ false
contains_above bits q high = contains-systems_of bits q ∙ ap (λ b. eqb (bit_at bits q) 1 && b) (le-ltb q 64 high) ∙ and_false (eqb (bit_at bits q) 1)
  where
    and_false : (x : Bool) → (x && false) ≡ false
    and_false true = refl
    and_false false = refl

-- ---- what the operations on bits give

max_test : (x y : ℕ) → x < 2 → y < 2 → eqb (max x y) 1 ≡ (eqb x 1 || eqb y 1)
max_test zero zero low less = refl
max_test zero (suc zero) low less = refl
max_test (suc zero) zero low less = refl
max_test (suc zero) (suc zero) low less = refl
max_test (suc (suc x)) y low less = absurd (omega arith)
max_test x (suc (suc y)) low less = absurd (omega arith)

min_test : (x y : ℕ) → x < 2 → y < 2 → eqb (min x (1 - y)) 1 ≡ (eqb x 1 && not (eqb y 1))
min_test zero zero low less = refl
min_test zero (suc zero) low less = refl
min_test (suc zero) zero low less = refl
min_test (suc zero) (suc zero) low less = refl
min_test (suc (suc x)) y low less = absurd (omega arith)
min_test x (suc (suc y)) low less = absurd (omega arith)

pub systems_of-zero : systems_of 0 ≡ set.empty
systems_of-zero = same_below 0 set.empty (λ q low. ap (λ n. eqb n 1) (bit_at-zero q) ∙ sym (set.contains-empty nat_cmp q)) (λ q high. set.contains-empty nat_cmp q)

pub systems_of-or : (a b : ℕ) → systems_of (bit_or a b) ≡ set.union (systems_of a) (systems_of b)
systems_of-or a b = same_below _ _
    (λ q low. ap (λ n. eqb n 1) (bit_at_or a b q) ∙ max_test _ _ (bit_at-lt a q) (bit_at-lt b q)
    ∙ sym (set.contains-union nat_cmp_total _ _ q ∙ ap (λ x. x || set.contains (systems_of b) q) (contains_below a q low) ∙ ap (λ x. eqb (bit_at a q) 1 || x) (contains_below b q low)))
    (λ q high. set.contains-union nat_cmp_total _ _ q ∙ ap (λ x. x || set.contains (systems_of b) q) (contains_above a q high) ∙ contains_above b q high)

bit_of_difference : (a b q : ℕ) → b < 2 ^ 64 → q < 64 → bit_at (bit_and a (bit_not w64 b)) q ≡ min (bit_at a q) (1 - bit_at b q)
bit_of_difference a b q fits low = bit_at_and a (bit_not w64 b) q ∙ ap (λ n. min (bit_at a q) n) (bit_at_not w64 b q fits low)

pub systems_of-and_not : (a b : ℕ) → b < 2 ^ 64 → systems_of (bit_and a (bit_not w64 b)) ≡ set.difference (systems_of a) (systems_of b)
systems_of-and_not a b fits = same_below _ _
    (λ q low. ap (λ n. eqb n 1) (bit_of_difference a b q fits low) ∙ min_test _ _ (bit_at-lt a q) (bit_at-lt b q)
    ∙ sym (set.contains-difference nat_cmp_total _ _ q ∙ ap (λ x. x && not (set.contains (systems_of b) q)) (contains_below a q low) ∙ ap (λ x. eqb (bit_at a q) 1 && not x) (contains_below b q low)))
    (λ q high. set.contains-difference nat_cmp_total _ _ q ∙ ap (λ x. x && not (set.contains (systems_of b) q)) (contains_above a q high))

pub systems_of-set : (bits k : ℕ) → k < 64 → systems_of (bit_or bits (1 * 2 ^ k % 2 ^ 64)) ≡ set.insert (systems_of bits) k
systems_of-set bits k within = same_below _ _
    (λ q low. elim (cases_eq q k) [
      | inl same ↦ ap (λ n. eqb (bit_at (bit_or bits (1 * 2 ^ k % 2 ^ 64)) n) 1) same ∙ ap (λ n. eqb n 1) (bit_at_set_same w64 bits k within)
          ∙ sym (set.contains-insert nat_cmp_total _ k q ∙ ap (λ x. x || set.contains (systems_of bits) q) (unsigned_tied q k ∙ eq-eqb q k same))
      | inr apart ↦ ap (λ n. eqb n 1) (bit_at_set_other w64 bits k within q apart) ∙ sym (contains_below bits q low)
          ∙ sym (set.contains-insert nat_cmp_total _ k q ∙ ap (λ x. x || set.contains (systems_of bits) q) (unsigned_tied q k ∙ ne_eqb q k apart))
    ])
    (λ q high. set.contains-insert nat_cmp_total _ k q ∙ ap (λ x. x || set.contains (systems_of bits) q) (unsigned_tied q k ∙ ne_eqb q k (λ e. omega arith)) ∙ contains_above bits q high)

-- a set is within another exactly where no bit of it is left over
pub within_from_zero : (a b : ℕ) → b < 2 ^ 64 → bit_and a (bit_not w64 b) ≡ 0 → set.is_subset (systems_of a) (systems_of b) ≡ true
within_from_zero a b fits none = set.contains-is_subset nat_cmp_total _ _ each
  where
    bit_kept : (x y : ℕ) → x < 2 → y < 2 → min x (1 - y) ≡ 0 → eqb x 1 ≡ true → eqb y 1 ≡ true
    bit_kept zero y low less e h = absurd (true≢false (sym h))
    bit_kept (suc zero) zero low less e h = absurd (omega (arith, e))
    bit_kept (suc zero) (suc zero) low less e h = refl
    bit_kept (suc (suc x)) y low less e h = absurd (omega arith)
    bit_kept x (suc (suc y)) low less e h = absurd (omega arith)

    each : (q : ℕ) → set.contains (systems_of a) q ≡ true → set.contains (systems_of b) q ≡ true
    each q has = elim (cases_lt q 64) [
      | inl low ↦ contains_below b q low ∙ bit_kept (bit_at a q) (bit_at b q) (bit_at-lt a q) (bit_at-lt b q)
          (sym (bit_of_difference a b q fits low) ∙ ap (λ n. bit_at n q) none ∙ bit_at-zero q) (sym (contains_below a q low) ∙ has)
      | inr high ↦ absurd (both_ways _ (contains_above a q high) has)
    ]

pub zero_from_within : (a b : ℕ) → a < 2 ^ 64 → b < 2 ^ 64 → set.is_subset (systems_of a) (systems_of b) ≡ true → bit_and a (bit_not w64 b) ≡ 0
zero_from_within a b small fits within = same_from_bits _ 0 (λ q. each q ∙ sym (bit_at-zero q))
  where
    bit_lost : (x y : ℕ) → x < 2 → y < 2 → (eqb x 1 ≡ true → eqb y 1 ≡ true) → min x (1 - y) ≡ 0
    bit_lost zero y low less h = omega arith
    bit_lost (suc zero) zero low less h = absurd (true≢false (sym (h refl)))
    bit_lost (suc zero) (suc zero) low less h = refl
    bit_lost (suc (suc x)) y low less h = absurd (omega arith)
    bit_lost x (suc (suc y)) low less h = absurd (omega arith)

    each : (q : ℕ) → bit_at (bit_and a (bit_not w64 b)) q ≡ 0
    each q = elim (cases_lt q 64) [
      | inl low ↦ bit_of_difference a b q fits low ∙ bit_lost _ _ (bit_at-lt a q) (bit_at-lt b q)
          (λ h. sym (contains_below b q low) ∙ set.is_subset-contains nat_cmp_total _ _ within q (contains_below a q low ∙ h))
      | inr high ↦ bit_at_and a (bit_not w64 b) q ∙ ap (λ n. min n (bit_at (bit_not w64 b) q)) (bit_at_above a 64 q small high) ∙ omega arith
    ]

-- the bit of a system
pub bit_of_system : (bits q : ℕ) → bits < 2 ^ 64 → bit_at bits q ≡ cond (set.contains (systems_of bits) q) 1 0
bit_of_system bits q fits = elim (cases_lt q 64) [
  | inl low ↦ as_cond (bit_at bits q) (bit_at-lt bits q) ∙ ap (λ b. cond b 1 0) (sym (contains_below bits q low))
  | inr high ↦ bit_at_above bits 64 q fits high ∙ ap (λ b. cond b 1 0) (sym (contains_above bits q high))
]
  where
    as_cond : (x : ℕ) → x < 2 → x ≡ cond (eqb x 1) 1 0
    as_cond zero low = refl
    as_cond (suc zero) low = refl
    as_cond (suc (suc x)) low = absurd (omega arith)

-- ---- the next system

pub none_past : (bits from : ℕ) → 64 ≤ from → (other : ℕ) → from ≤ other → set.contains (systems_of bits) other ≡ false
none_past bits from past other high = contains_above bits other (omega arith)

shifted : (bits from i : ℕ) → bit_at (bits / 2 ^ from) i ≡ bit_at bits (from + i)
shifted bits from i = ap (λ n. n % 2) (div-div-eq-div-mul bits (2 ^ from) (2 ^ i) ∙ ap (λ n. bits / n) (sym (pow-add 2 from i)))

pub unset : (bits q : ℕ) → bit_at bits q ≡ 0 → set.contains (systems_of bits) q ≡ false
unset bits q low_bit = elim (cases_lt q 64) [
  | inl low ↦ contains_below bits q low ∙ ap (λ n. eqb n 1) low_bit
  | inr high ↦ contains_above bits q high
]

pub none_from : (bits from : ℕ) → bits < 2 ^ 64 → bits / 2 ^ from ≡ 0 → (other : ℕ) → from ≤ other → set.contains (systems_of bits) other ≡ false
none_from bits from fits none other high =
    let low_bit : bit_at bits other ≡ 0 = ap (bit_at bits) (omega arith) ∙ sym (shifted bits from (other - from)) ∙ ap (λ n. bit_at n (other - from)) none ∙ bit_at-zero (other - from) in
    unset bits other low_bit

module _ (bits from : ℕ) (fits : bits < 2 ^ 64) (some : 0 < bits / 2 ^ from) (small : bits / 2 ^ from < 2 ^ 64) where
  abbrev pub zeros : ℕ
  zeros = trailing_zeros w64 (bits / 2 ^ from)

  lowest : bit_at bits (from + zeros) ≡ 1
  lowest = sym (shifted bits from zeros) ∙ (bit_at-trailing_zeros w64 (bits / 2 ^ from) some small).1

  pub next_in_range : from + zeros < 64
  next_in_range = elim (cases_lt (from + zeros) 64) [
    | inl low ↦ low
    | inr high ↦ absurd (let one = lowest in let none = bit_at_above bits 64 (from + zeros) fits high in omega (arith, one, none))
  ]

  pub next_has : set.contains (systems_of bits) (from + zeros) ≡ true
  next_has = contains_below bits (from + zeros) next_in_range ∙ ap (λ n. eqb n 1) lowest

  pub next_least : (other : ℕ) → from ≤ other → other < from + zeros → set.contains (systems_of bits) other ≡ false
  next_least other low less =
      unset bits other (ap (bit_at bits) (omega arith) ∙ sym (shifted bits from (other - from)) ∙ (bit_at-trailing_zeros w64 (bits / 2 ^ from) some small).2 (other - from) (omega arith))
