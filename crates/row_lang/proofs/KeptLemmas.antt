-- One list is kept of the components that a line names.
use Rattle.std.proofs.Common.{◌≡◌, inl, inr, ℕ, suc, ◌+◌, ◌<◌, ◌≤◌, List, [], ◌∷◌, get_or, length, refl, sym, ap, ap₂, ◌∙◌, arith}
use Rattle.std.specs.Prelude.{◌==◌}
use Rattle.std.specs.List.{AllByRecursion}
use Rattle.std.specs.List.Sorted.{IsNonDecreasing}
use Rattle.std.proofs.lemmas.Bool.{cases_Bool, eqb-true, eq-eqb}
use Rattle.std.proofs.lemmas.List.Sorted.{sum_by-IsPermutation}
use Rattle.row_lang.specs.Reading.{IsKeptAs}
use Rattle.row_lang.proofs.NameListLemmas.{times, one_if, times-cons}

-- no number of a list is below this one
abbrev AreAtLeast : ℕ → List ℕ → Type 0
AreAtLeast least xs = AllByRecursion (λ x. least ≤ x) xs

at_least : (least : ℕ) (xs : List ℕ) → ((j : ℕ) → j < length xs → least ≤ get_or xs j 0) → AreAtLeast least xs
at_least least [] h = tt
at_least least (x ∷ xs) h = (h 0 (omega arith), at_least least xs (λ j within. h (suc j) (omega arith)))

head_least : (x : ℕ) (xs : List ℕ) → IsNonDecreasing (x ∷ xs) → AreAtLeast x xs
head_least x xs h = at_least x xs (λ j within. h 0 (suc j) 0 (omega arith) (omega arith))

tail_rises : (x : ℕ) (xs : List ℕ) → IsNonDecreasing (x ∷ xs) → IsNonDecreasing xs
tail_rises x xs h = λ i j d le within. h (suc i) (suc j) d (omega arith) (omega arith)

counted_least : (least k : ℕ) (xs : List ℕ) → AreAtLeast least xs → 1 ≤ times k xs → least ≤ k
counted_least least k [] each counted = absurd (omega (arith, counted))
counted_least least k (x ∷ xs) each counted =
    let whole : times k (x ∷ xs) ≡ one_if (x == k) + times k xs = times-cons k x xs in
    elim (cases_Bool (x == k)) [
      | inl here ↦ (let is : x ≡ k = eqb-true x k here in omega (arith, each.0))
      | inr other ↦
          let none : one_if (x == k) ≡ 0 = ap one_if other in
          let later : 1 ≤ times k xs = omega arith in
          counted_least least k xs each.1 later
    ]

times-head : (x : ℕ) (xs : List ℕ) → 1 ≤ times x (x ∷ xs)
times-head x xs =
    let whole : times x (x ∷ xs) ≡ one_if (x == x) + times x xs = times-cons x x xs in
    let here : one_if (x == x) ≡ 1 = ap one_if (eq-eqb x x refl) in
    omega arith

-- lists in ascending order with the same elements are one list
pub same_counts : (xs ys : List ℕ) → IsNonDecreasing xs → IsNonDecreasing ys → ((k : ℕ) → times k xs ≡ times k ys) → xs ≡ ys
same_counts [] [] p q same = refl
same_counts [] (y ∷ ys) p q same = absurd (omega (arith, same y, times-head y ys))
same_counts (x ∷ xs) [] p q same = absurd (omega (arith, same x, times-head x xs))
same_counts (x ∷ xs) (y ∷ ys) p q same =
    let here : 1 ≤ times x (y ∷ ys) = omega (arith, same x, times-head x xs) in
    let there : 1 ≤ times y (x ∷ xs) = omega (arith, same y, times-head y ys) in
    let low : y ≤ x = counted_least y x (y ∷ ys) (omega arith, head_least y ys q) here in
    let high : x ≤ y = counted_least x y (x ∷ xs) (omega arith, head_least x xs p) there in
    let head : x ≡ y = omega arith in
    ap₂ (λ z zs. z ∷ zs) head (same_counts xs ys (tail_rises x xs p) (tail_rises y ys q) (λ k.
    let a : times k (x ∷ xs) ≡ one_if (x == k) + times k xs = times-cons k x xs in
    let b : times k (y ∷ ys) ≡ one_if (y == k) + times k ys = times-cons k y ys in
    let c : one_if (x == k) ≡ one_if (y == k) = ap (λ z. one_if (z == k)) head in
    let whole : times k (x ∷ xs) ≡ times k (y ∷ ys) = same k in
    omega arith))

pub one_kept : (order a b : List ℕ) → IsKeptAs order a → IsKeptAs order b → a ≡ b
one_kept order a b p q =
    same_counts a b p.ascending q.ascending (λ k. sum_by-IsPermutation _ order a p.same ∙ sym (sum_by-IsPermutation _ order b q.same))
