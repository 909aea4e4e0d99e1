-- Lists of components: two of them in one, and what a list in ascending number has of those that a line names.
use Rattle.std.proofs.Common.{◌≡◌, inl, inr, ℕ, ◌<◌, ◌≤◌, Bool, true, false, eqb, not, List, [], ◌∷◌, ◌++◌, length, refl, sym, ap, ◌∙◌, arith}
use Rattle.std.specs.List.{AllByRecursion, IsDistinct, list_any}
use Rattle.std.specs.Cmp.{IsEquivalence}
use Rattle.std.proofs.lemmas.Bool.{and_parts, and_from, cases_Bool, eq-eqb, eqb-true, false_from_ne_true, false≢true, not-true, not_from_false, or_cases, or_from, or_left, or_parts, or_right}
use Rattle.std.proofs.lemmas.Cmp.{nat_eq_equiv}
use Rattle.std.proofs.lemmas.List.Folds.{list_any-append}
use Rattle.std.proofs.lemmas.Map.Made.{length-le_from_is_member}
use Rattle.world_model.specs.Groups.{has_pool, are_declared, are_distinct}
use Rattle.row_lang.specs.Systems.{ascending}
use Rattle.row_lang.proofs.AscendingLemmas.{below_all, distinct_of_once, times-ascending}
use Rattle.row_lang.proofs.NameListLemmas.{named_counted, one_if, times}

-- ---- two lists in one

-- two lists share no component
abbrev pub AreApart : List ℕ → List ℕ → Type 0
AreApart pools more = (pool : ℕ) → has_pool pools pool ≡ true → has_pool more pool ≡ true → ⊥

pub apart_none : (pools more : List ℕ) → more ≡ [] → AreApart pools more
apart_none pools more none pool has other = false≢true (sym (ap (λ (l : List ℕ). has_pool l pool) none) ∙ other)

-- lists that name no component twice and share none are such a list together
pub distinct-join : (pools more : List ℕ) → are_distinct pools ≡ true → are_distinct more ≡ true → AreApart pools more → are_distinct (pools ++ more) ≡ true
distinct-join [] more one two apart = two
distinct-join (pool ∷ pools) more one two apart =
    let parts = and_parts (not (has_pool pools pool)) (are_distinct pools) one in
    let here = or_left (eqb pool pool) (has_pool pools pool) (eq-eqb pool pool refl) in
    and_from (not (has_pool (pools ++ more) pool)) (are_distinct (pools ++ more))
    (not_from_false (has_pool (pools ++ more) pool)
    (list_any-append (λ other. eqb other pool) pools more
    ∙ or_from (has_pool pools pool) (has_pool more pool) (not-true (has_pool pools pool) parts.0) (false_from_ne_true (has_pool more pool) (apart pool here))))
    (distinct-join pools more parts.1 two (λ other has. apart other (or_right (eqb pool other) (has_pool pools other) has)))

-- where no component of one list is in another, they share none
pub apart_of_none : (pools more : List ℕ) → list_any (has_pool more) pools ≡ false → AreApart pools more
apart_of_none [] more none other has also = false≢true has
apart_of_none (pool ∷ pools) more none other has also =
    let parts = or_parts (has_pool more pool) (list_any (has_pool more) pools) none in
    elim (or_cases (eqb pool other) (has_pool pools other) has) [
      | inl here ↦ false≢true (sym parts.0 ∙ ap (has_pool more) (eqb-true pool other here) ∙ also)
      | inr later ↦ apart_of_none pools more parts.1 other later also
    ]

-- ---- lengths

backward : IsEquivalence (λ (a b : ℕ). eqb b a)
backward = record {
  refl = λ a. nat_eq_equiv.refl a;
  symm = λ a b. nat_eq_equiv.symm b a;
  congr = λ a b c same. nat_eq_equiv.symm c a ∙ nat_eq_equiv.congr a b c (nat_eq_equiv.symm a b ∙ same) ∙ nat_eq_equiv.symm b c;
}

distinct_backward : (pools : List ℕ) → are_distinct pools ≡ true → IsDistinct (λ (a b : ℕ). eqb b a) pools
unfolding IsDistinct
distinct_backward [] distinct = tt
distinct_backward (pool ∷ pools) distinct =
    let parts = and_parts (not (has_pool pools pool)) (are_distinct pools) distinct in
    (each pool pools (not-true (has_pool pools pool) parts.0), distinct_backward pools parts.1)
  where
    each : (pool : ℕ) (pools : List ℕ) → has_pool pools pool ≡ false → AllByRecursion (λ other. eqb other pool ≡ false) pools
    each pool [] none = tt
    each pool (other ∷ pools) none =
        let parts = or_parts (eqb other pool) (has_pool pools pool) none in
        (parts.0, each pool pools parts.1)

-- a list that names no component twice and only such as another names is no longer than that one
pub few_among : (pools more : List ℕ) → are_distinct pools ≡ true → ((pool : ℕ) → has_pool pools pool ≡ true → has_pool more pool ≡ true) → length pools ≤ length more
few_among pools more distinct among = length-le_from_is_member backward pools more (distinct_backward pools distinct) among

-- ---- in ascending number

module _ (count : ℕ) (pools : List ℕ) (declared : are_declared count pools ≡ true) where
  -- only what the line names is there
  pub has-ascending : (pool : ℕ) → has_pool (ascending count pools) pool ≡ true → has_pool pools pool ≡ true
  has-ascending pool has = elim (cases_Bool (has_pool pools pool)) [
    | inl is ↦ is
    | inr other ↦
        let none : one_if (has_pool pools pool) ≡ 0 = ap one_if other in
        absurd (omega (arith, named_counted pool (ascending count pools) has, times-ascending count pool pools declared, none))
  ]

  pub distinct-ascending : are_distinct (ascending count pools) ≡ true
  distinct-ascending = distinct_of_once (ascending count pools) (λ pool. omega (arith, times-ascending count pool pools declared, most (has_pool pools pool)))
    where
      most : (b : Bool) → one_if b ≤ 1
      most true = omega arith
      most false = omega arith

  pub few-ascending : length (ascending count pools) ≤ length pools
  few-ascending = few_among (ascending count pools) pools distinct-ascending has-ascending

-- each is declared
pub declared-ascending : (count : ℕ) (pools : List ℕ) → are_declared count (ascending count pools) ≡ true
declared-ascending count pools = below_all (has_pool pools) count 0 count (omega arith)

-- where the line names one, one is there
pub some-ascending : (count : ℕ) (pools : List ℕ) → are_declared count pools ≡ true → 0 < length pools → 0 < length (ascending count pools)
some-ascending count [] declared some = absurd (omega (arith, some))
some-ascending count (pool ∷ pools) declared some =
    let here : has_pool (pool ∷ pools) pool ≡ true = or_left (eqb pool pool) (has_pool pools pool) (eq-eqb pool pool refl) in
    counted_some (ascending count (pool ∷ pools)) pool (times-ascending count pool (pool ∷ pools) declared ∙ ap one_if here)
  where
    counted_some : (kept : List ℕ) (pool : ℕ) → times pool kept ≡ 1 → 0 < length kept
    counted_some [] pool one = absurd (omega (arith, one))
    counted_some (first ∷ kept) pool one = omega arith
