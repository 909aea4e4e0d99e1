-- Lists of components: those that name none twice, and those in ascending number.
use Rattle.std.proofs.Common.{◌≡◌, ◌≢◌, inl, inr, ℕ, zero, suc, ◌+◌, ◌<◌, ◌≤◌, ltb, Bool, true, false, cond, not, ◌||◌, List, [], ◌∷◌, ◌++◌, refl, sym, ap, subst, append_assoc, ◌∙◌, arith}
use Rattle.std.specs.Prelude.{◌==◌, IsPermutation}
use Rattle.std.specs.List.{filter, range_with_len, list_any}
use Rattle.std.specs.List.Sorted.{IsNonDecreasing}
use Rattle.std.proofs.lemmas.Bool.{cases_Bool, and_parts, and_from, eqb-true, eq-eqb, lt-ltb, ltb-true, ltb-false, false≢true, not-true, not_from_false}
use Rattle.std.proofs.lemmas.List.FromFn.{get_or-range_with_len, length-range_with_len}
use Rattle.std.proofs.lemmas.List.Kept.{IsNonDecreasingBy-filter}
use Rattle.std.proofs.lemmas.List.Sorted.{IsPermutation-append_left, IsPermutation-cons, IsPermutation-refl, IsPermutation-sym, IsPermutation-to_front, IsPermutation-trans, sum_by-IsPermutation}
use Rattle.world_model.specs.Groups.{has_pool, are_declared, are_distinct}
use Rattle.row_lang.specs.NameLists.{AreNamedOnce}
use Rattle.row_lang.specs.Reading.{IsKeptAs}
use Rattle.row_lang.specs.Systems.{ascending}
use Rattle.row_lang.proofs.KeptLemmas.{same_counts}
use Rattle.row_lang.proofs.NameListLemmas.{times, one_if, times-append, times-cons, named_counted, unnamed_counted}

pub unequal_test : (a b : ℕ) → a ≢ b → (a == b) ≡ false
unequal_test a b apart = elim (cases_Bool (a == b)) [
  | inl same ↦ absurd (apart (eqb-true a b same))
  | inr other ↦ other
]

kept-here : (p : ℕ → Bool) (a n : ℕ) → p a ≡ true → filter p (range_with_len a (suc n)) ≡ a ∷ filter p (range_with_len (a + 1) n)
kept-here p a n h = ap (λ b. cond b (a ∷ filter p (range_with_len (a + 1) n)) (filter p (range_with_len (a + 1) n))) h

left-here : (p : ℕ → Bool) (a n : ℕ) → p a ≡ false → filter p (range_with_len a (suc n)) ≡ filter p (range_with_len (a + 1) n)
left-here p a n h = ap (λ b. cond b (a ∷ filter p (range_with_len (a + 1) n)) (filter p (range_with_len (a + 1) n))) h

pub below_all : (p : ℕ → Bool) (limit a n : ℕ) → a + n ≤ limit → are_declared limit (filter p (range_with_len a n)) ≡ true
below_all p limit a zero h = refl
below_all p limit a (suc n) h =
    let rest = below_all p limit (a + 1) n (omega arith) in
    elim (cases_Bool (p a)) [
      | inl passes ↦ ap (are_declared limit) (kept-here p a n passes) ∙ and_from (ltb a limit) _ (lt-ltb a limit (omega arith)) rest
      | inr fails ↦ ap (are_declared limit) (left-here p a n fails) ∙ rest
    ]

range_rises : (a n : ℕ) → IsNonDecreasing (range_with_len a n)
range_rises a n = λ i j d le within.
    let len = length-range_with_len a n in
    omega (arith, get_or-range_with_len a n i d (omega arith), get_or-range_with_len a n j d (omega arith))

pub filter_rises : (p : ℕ → Bool) (a n : ℕ) → IsNonDecreasing (filter p (range_with_len a n))
filter_rises p a n = IsNonDecreasingBy-filter (λ x. x) p (range_with_len a n) (range_rises a n)

-- a number before the range isn't kept
times-before : (p : ℕ → Bool) (k a n : ℕ) → k < a → times k (filter p (range_with_len a n)) ≡ 0
times-before p k a zero h = refl
times-before p k a (suc n) h =
    let rest = times-before p k (a + 1) n (omega arith) in
    elim (cases_Bool (p a)) [
      | inl passes ↦
          let other : one_if (a == k) ≡ 0 = ap one_if (unequal_test a k (λ same. omega (arith, same))) in
          ap (times k) (kept-here p a n passes) ∙ times-cons k a (filter p (range_with_len (a + 1) n)) ∙ omega arith
      | inr fails ↦ ap (times k) (left-here p a n fails) ∙ rest
    ]

-- nor is one behind it
times-behind : (p : ℕ → Bool) (k a n : ℕ) → a + n ≤ k → times k (filter p (range_with_len a n)) ≡ 0
times-behind p k a zero h = refl
times-behind p k a (suc n) h =
    let rest = times-behind p k (a + 1) n (omega arith) in
    elim (cases_Bool (p a)) [
      | inl passes ↦
          let other : one_if (a == k) ≡ 0 = ap one_if (unequal_test a k (λ same. omega (arith, same))) in
          ap (times k) (kept-here p a n passes) ∙ times-cons k a (filter p (range_with_len (a + 1) n)) ∙ omega arith
      | inr fails ↦ ap (times k) (left-here p a n fails) ∙ rest
    ]

-- a number of the range is kept once where it passes
pub times-within : (p : ℕ → Bool) (k a n : ℕ) → a ≤ k → k < a + n → times k (filter p (range_with_len a n)) ≡ one_if (p k)
times-within p k a zero low high = absurd (omega arith)
times-within p k a (suc n) low high =
    elim (cases_Bool (a == k)) [
      | inl same ↦
          let is : a ≡ k = eqb-true a k same in
          let rest : times k (filter p (range_with_len (a + 1) n)) ≡ 0 = times-before p k (a + 1) n (omega arith) in
          let one : one_if (a == k) ≡ 1 = ap one_if same in
          elim (cases_Bool (p a)) [
            | inl passes ↦
                let counted : one_if (p k) ≡ 1 = ap one_if (ap p (sym is) ∙ passes) in
                ap (times k) (kept-here p a n passes) ∙ times-cons k a (filter p (range_with_len (a + 1) n)) ∙ omega arith
            | inr fails ↦
                let counted : one_if (p k) ≡ 0 = ap one_if (ap p (sym is) ∙ fails) in
                ap (times k) (left-here p a n fails) ∙ omega arith
          ]
      | inr differs ↦
          let none : one_if (a == k) ≡ 0 = ap one_if differs in
          let rest : times k (filter p (range_with_len (a + 1) n)) ≡ one_if (p k) = times-within p k (a + 1) n (further a k low differs) (omega arith) in
          elim (cases_Bool (p a)) [
            | inl passes ↦ ap (times k) (kept-here p a n passes) ∙ times-cons k a (filter p (range_with_len (a + 1) n)) ∙ omega arith
            | inr fails ↦ ap (times k) (left-here p a n fails) ∙ rest
          ]
    ]
  where
    further : (a k : ℕ) → a ≤ k → (a == k) ≡ false → a + 1 ≤ k
    further a k low differs =
        let apart : a ≡ k → ⊥ = λ is. false≢true (sym differs ∙ eq-eqb a k is) in
        omega (arith, apart)

-- ---- lists that name no component twice

pub counted_once : (k : ℕ) (pools : List ℕ) → AreNamedOnce pools → times k pools ≡ one_if (list_any (λ other. other == k) pools)
counted_once k pools once = elim (cases_Bool (list_any (λ other. other == k) pools)) [
  | inl some ↦
      let one : one_if (list_any (λ other. other == k) pools) ≡ 1 = ap one_if some in
      omega (arith, once k, named_counted k pools some)
  | inr none ↦ unnamed_counted k pools none ∙ sym (ap one_if none)
]

pub once_of_distinct : (pools : List ℕ) → are_distinct pools ≡ true → AreNamedOnce pools
once_of_distinct [] h k = omega arith
once_of_distinct (pool ∷ pools) h k =
    let parts = and_parts (not (has_pool pools pool)) (are_distinct pools) h in
    let whole : times k (pool ∷ pools) ≡ one_if (pool == k) + times k pools = times-cons k pool pools in
    elim (cases_Bool (pool == k)) [
      | inl same ↦
          let one : one_if (pool == k) ≡ 1 = ap one_if same in
          let none : times k pools ≡ 0 = ap (λ n. times n pools) (sym (eqb-true pool k same)) ∙ unnamed_counted pool pools (not-true (has_pool pools pool) parts.0) in
          omega arith
      | inr other ↦
          let none : one_if (pool == k) ≡ 0 = ap one_if other in
          let rest : times k pools ≤ 1 = once_of_distinct pools parts.1 k in
          omega arith
    ]

pub distinct_of_once : (pools : List ℕ) → AreNamedOnce pools → are_distinct pools ≡ true
distinct_of_once [] once = refl
distinct_of_once (pool ∷ pools) once =
    and_from (not (has_pool pools pool)) (are_distinct pools)
    (elim (cases_Bool (has_pool pools pool)) [
      | inr new ↦ not_from_false (has_pool pools pool) new
      | inl twice ↦
          let whole : times pool (pool ∷ pools) ≡ one_if (pool == pool) + times pool pools = times-cons pool pool pools in
          let here : one_if (pool == pool) ≡ 1 = ap one_if (eq-eqb pool pool refl) in
          let more : 1 ≤ times pool pools = named_counted pool pools twice in
          let most : times pool (pool ∷ pools) ≤ 1 = once pool in
          absurd (omega arith)
    ])
    (distinct_of_once pools (λ k.
    let whole : times k (pool ∷ pools) ≡ one_if (pool == k) + times k pools = times-cons k pool pools in
    let most : times k (pool ∷ pools) ≤ 1 = once k in
    omega arith))

-- ---- lists in ascending number

-- a list of declared components doesn't have one past them
past : (count k : ℕ) (pools : List ℕ) → count ≤ k → are_declared count pools ≡ true → has_pool pools k ≡ false
past count k [] above declared = refl
past count k (pool ∷ pools) above declared =
    let parts = and_parts (ltb pool count) (are_declared count pools) declared in
    let within = ltb-true pool count parts.0 in
    let differs : (pool == k) ≡ false = unequal_test pool k (λ same. omega (arith, same, within)) in
    ap (λ b. b || has_pool pools k) differs ∙ past count k pools above parts.1

-- how often a component is among these, in ascending number
pub times-ascending : (count k : ℕ) (pools : List ℕ) → are_declared count pools ≡ true → times k (ascending count pools) ≡ one_if (has_pool pools k)
times-ascending count k pools declared = elim (cases_Bool (ltb k count)) [
  | inl within ↦ times-within (has_pool pools) k 0 count (omega arith) (let low = ltb-true k count within in omega arith)
  | inr above ↦
      times-behind (has_pool pools) k 0 count (let high = ltb-false k count above in omega arith)
      ∙ sym (ap one_if (past count k pools (ltb-false k count above) declared))
]

-- components that are kept in ascending number are these
pub kept_ascending : (count : ℕ) (order kept : List ℕ) → are_declared count order ≡ true → AreNamedOnce order → IsKeptAs order kept → kept ≡ ascending count order
kept_ascending count order kept declared once h =
    same_counts kept (ascending count order) h.ascending (filter_rises (has_pool order) 0 count)
    (λ k. sum_by-IsPermutation _ order kept h.same ∙ counted_once k order once ∙ sym (times-ascending count k order declared))

-- ---- one list in another order

record IsSplitAt (x : ℕ) (ys : List ℕ) : Type 0 where
  front : List ℕ
  back : List ℕ
  whole : ys ≡ front ++ x ∷ back

split_at : (x : ℕ) (ys : List ℕ) → 1 ≤ times x ys → IsSplitAt x ys
split_at x [] some = absurd (omega arith)
split_at x (y ∷ ys) some = elim (cases_Bool (y == x)) [
  | inl same ↦ record { front = []; back = ys; whole = ap (λ (z : ℕ). z ∷ ys) (eqb-true y x same) }
  | inr other ↦
      let none : one_if (y == x) ≡ 0 = ap one_if other in
      let rest = split_at x ys (omega (arith, some, times-cons x y ys)) in
      record { front = y ∷ rest.front; back = rest.back; whole = ap (λ (zs : List ℕ). y ∷ zs) rest.whole }
]

-- lists that have each number equally often are in one another's order
permuted : (xs ys : List ℕ) → ((k : ℕ) → times k xs ≡ times k ys) → IsPermutation xs ys
permuted [] [] same = IsPermutation-refl []
permuted [] (y ∷ ys) same =
    let here : one_if (y == y) ≡ 1 = ap one_if (eq-eqb y y refl) in
    absurd (omega (arith, same y, times-cons y y ys))
permuted (x ∷ xs) ys same =
    let here : one_if (x == x) ≡ 1 = ap one_if (eq-eqb x x refl) in
    let cut = split_at x ys (omega (arith, same x, times-cons x x xs)) in
    let rest = permuted xs (cut.front ++ cut.back) (λ k.
    omega (arith, same k, times-cons k x xs, ap (times k) cut.whole, times-append k cut.front (x ∷ cut.back), times-cons k x cut.back, times-append k cut.front cut.back)) in
    let moved = IsPermutation-append_left cut.back (x ∷ cut.front) (cut.front ++ x ∷ []) (IsPermutation-sym _ _ (IsPermutation-to_front cut.front x)) in
    subst (λ (zs : List ℕ). IsPermutation (x ∷ xs) zs) (append_assoc cut.front (x ∷ []) cut.back ∙ sym cut.whole)
    (IsPermutation-trans _ _ _ (IsPermutation-cons x xs (cut.front ++ cut.back) rest) moved)

-- components in ascending number are the same components
pub ascending_permuted : (count : ℕ) (pools : List ℕ) → are_declared count pools ≡ true → AreNamedOnce pools → IsPermutation pools (ascending count pools)
ascending_permuted count pools declared once = permuted pools (ascending count pools) (λ k. counted_once k pools once ∙ sym (times-ascending count k pools declared))

-- in ascending number they stand as they are
pub ascending_again : (count : ℕ) (pools : List ℕ) → are_declared count pools ≡ true → AreNamedOnce pools → ascending count (ascending count pools) ≡ ascending count pools
ascending_again count pools declared once =
    let kept = ascending count pools in
    let same = ascending_permuted count pools declared once in
    sym (kept_ascending count kept kept (below_all (has_pool pools) count 0 count (omega arith)) (λ k. omega (arith, once k, sum_by-IsPermutation (λ other. one_if (other == k)) pools kept same))
    (record { same = IsPermutation-refl kept; ascending = filter_rises (has_pool pools) 0 count }))
