-- The components that names name, and the names of components.
use Rattle.std.proofs.Common.{◌≡◌, inl, inr, ℕ, zero, suc, ◌+◌, ◌<◌, ◌≤◌, ltb, Bool, true, false, cond, not, ◌||◌, List, [], ◌∷◌, ◌++◌, All, map, length, Some, refl, sym, ap, ap₂, subst, ◌∙◌, arith, IsPermutation, append_assoc}
use Rattle.std.specs.Prelude.{◌==◌}
use Rattle.std.specs.List.{filter, range_with_len, list_any, list_all, position_from, AllByRecursion}
use Rattle.std.specs.List.Sorted.{IsNonDecreasing}
use Rattle.std.specs.Str.{bytes_eq}
use Rattle.std.proofs.lemmas.Bool.{cases_Bool, and_parts, and_from, or_from, or_left, or_right, eqb-true, eq-eqb, lt-ltb, ltb-true, ltb-false, false≢true, not-true, not_from_false}
use Rattle.std.proofs.lemmas.List.Elements.{All-nil, All-cons, All-head, All-tail}
use Rattle.std.proofs.lemmas.List.FromFn.{get_or-range_with_len, length-range_with_len}
use Rattle.std.proofs.lemmas.List.Kept.{IsNonDecreasingBy-filter}
use Rattle.std.proofs.lemmas.List.Sorted.{All-permutation, IsPermutation-append_left, IsPermutation-cons, IsPermutation-refl, IsPermutation-sym, IsPermutation-to_front, IsPermutation-trans, sum_by-IsPermutation}
use Rattle.std.proofs.lemmas.Option.{none-some}
use Rattle.std.proofs.lemmas.Slice.Eq.{bytes_eq-Decides}
use Rattle.world_model.specs.declared.component.Decl.{Decl}
use Rattle.world_model.specs.Components.{has_name}
use Rattle.world_model.specs.Groups.{are_declared}
use Rattle.world_model.specs.Names.{is_name}
use Rattle.world_model.specs.Tokens.{IsNameToken}
use Rattle.row_lang.specs.Naming.{are_named_apart}
use Rattle.world_text.specs.Fitting.{are_different, are_of_components}
use Rattle.world_text.specs.Meaning.{pools_named}
use Rattle.row_lang.specs.NameLists.{name_at, IsCalled, AreNamedOnce}
use Rattle.row_lang.specs.Reading.{IsKeptAs}
use Rattle.world_text.proofs.AddingLemmas.{unequal_test}
use Rattle.row_lang.proofs.KeptLemmas.{same_counts}
use Rattle.row_lang.proofs.NameLemmas.{one_place, token_is_name, token_called}
use Rattle.row_lang.proofs.NameListLemmas.{times, one_if, times-cons, times-append, named_counted, unnamed_counted}

-- ---- the numbers of a range that pass a test

-- what a test keeps of a range, from its first number on
kept-here : (p : ℕ → Bool) (a n : ℕ) → p a ≡ true → filter p (range_with_len a (suc n)) ≡ a ∷ filter p (range_with_len (a + 1) n)
kept-here p a n h = ap (λ b. cond b (a ∷ filter p (range_with_len (a + 1) n)) (filter p (range_with_len (a + 1) n))) h

left-here : (p : ℕ → Bool) (a n : ℕ) → p a ≡ false → filter p (range_with_len a (suc n)) ≡ filter p (range_with_len (a + 1) n)
left-here p a n h = ap (λ b. cond b (a ∷ filter p (range_with_len (a + 1) n)) (filter p (range_with_len (a + 1) n))) h

below_all : (p : ℕ → Bool) (limit a n : ℕ) → a + n ≤ limit → are_declared limit (filter p (range_with_len a n)) ≡ true
below_all p limit a zero h = refl
below_all p limit a (suc n) h =
    let rest = below_all p limit (a + 1) n (omega arith) in
    elim (cases_Bool (p a)) [
      | inl passes ↦ ap (are_declared limit) (kept-here p a n passes) ∙ and_from (ltb a limit) _ (lt-ltb a limit (omega arith)) rest
      | inr fails ↦ ap (are_declared limit) (left-here p a n fails) ∙ rest
    ]

range_rises : (a n : ℕ) → IsNonDecreasing (range_with_len a n)
range_rises a n = λ i j d le within.
    let len = length-range_with_len a n in
    omega (arith, get_or-range_with_len a n i d (omega arith), get_or-range_with_len a n j d (omega arith))

filter_rises : (p : ℕ → Bool) (a n : ℕ) → IsNonDecreasing (filter p (range_with_len a n))
filter_rises p a n = IsNonDecreasingBy-filter (λ x. x) p (range_with_len a n) (range_rises a n)

-- a number before the range isn't kept
times-before : (p : ℕ → Bool) (k a n : ℕ) → k < a → times k (filter p (range_with_len a n)) ≡ 0
times-before p k a zero h = refl
times-before p k a (suc n) h =
    let rest = times-before p k (a + 1) n (omega arith) in
    elim (cases_Bool (p a)) [
      | inl passes ↦
          let other : one_if (a == k) ≡ 0 = ap one_if (unequal_test a k (λ same. omega (arith, same))) in
          ap (times k) (kept-here p a n passes) ∙ times-cons k a (filter p (range_with_len (a + 1) n)) ∙ omega arith
      | inr fails ↦ ap (times k) (left-here p a n fails) ∙ rest
    ]

-- nor is one behind it
times-behind : (p : ℕ → Bool) (k a n : ℕ) → a + n ≤ k → times k (filter p (range_with_len a n)) ≡ 0
times-behind p k a zero h = refl
times-behind p k a (suc n) h =
    let rest = times-behind p k (a + 1) n (omega arith) in
    elim (cases_Bool (p a)) [
      | inl passes ↦
          let other : one_if (a == k) ≡ 0 = ap one_if (unequal_test a k (λ same. omega (arith, same))) in
          ap (times k) (kept-here p a n passes) ∙ times-cons k a (filter p (range_with_len (a + 1) n)) ∙ omega arith
      | inr fails ↦ ap (times k) (left-here p a n fails) ∙ rest
    ]

-- a number of the range is kept once where it passes
times-within : (p : ℕ → Bool) (k a n : ℕ) → a ≤ k → k < a + n → times k (filter p (range_with_len a n)) ≡ one_if (p k)
times-within p k a zero low high = absurd (omega arith)
times-within p k a (suc n) low high =
    elim (cases_Bool (a == k)) [
      | inl same ↦
          let is : a ≡ k = eqb-true a k same in
          let rest : times k (filter p (range_with_len (a + 1) n)) ≡ 0 = times-before p k (a + 1) n (omega arith) in
          let one : one_if (a == k) ≡ 1 = ap one_if same in
          elim (cases_Bool (p a)) [
            | inl passes ↦
                let counted : one_if (p k) ≡ 1 = ap one_if (ap p (sym is) ∙ passes) in
                ap (times k) (kept-here p a n passes) ∙ times-cons k a (filter p (range_with_len (a + 1) n)) ∙ omega arith
            | inr fails ↦
                let counted : one_if (p k) ≡ 0 = ap one_if (ap p (sym is) ∙ fails) in
                ap (times k) (left-here p a n fails) ∙ omega arith
          ]
      | inr differs ↦
          let none : one_if (a == k) ≡ 0 = ap one_if differs in
          let rest : times k (filter p (range_with_len (a + 1) n)) ≡ one_if (p k) = times-within p k (a + 1) n (further a k low differs) (omega arith) in
          elim (cases_Bool (p a)) [
            | inl passes ↦ ap (times k) (kept-here p a n passes) ∙ times-cons k a (filter p (range_with_len (a + 1) n)) ∙ omega arith
            | inr fails ↦ ap (times k) (left-here p a n fails) ∙ rest
          ]
    ]
  where
    further : (a k : ℕ) → a ≤ k → (a == k) ≡ false → a + 1 ≤ k
    further a k low differs =
        let apart : a ≡ k → ⊥ = λ is. false≢true (sym differs ∙ eq-eqb a k is) in
        omega (arith, apart)

-- ---- components by their names

-- two of the components have one name where they are one
same_names : (decls : List Decl) (a b : ℕ) → are_named_apart decls ≡ true → a < length decls → b < length decls → bytes_eq (name_at decls a) (name_at decls b) ≡ (b == a)
same_names decls a b apart la lb = elim (cases_Bool (b == a)) [
  | inl same ↦ (bytes_eq-Decides (name_at decls a) (name_at decls b)).1 (ap (name_at decls) (sym (eqb-true b a same))) ∙ sym same
  | inr differ ↦ elim (cases_Bool (bytes_eq (name_at decls a) (name_at decls b))) [
    | inl one ↦ absurd (false≢true (sym differ ∙ eq-eqb b a (sym (one_place decls a b apart la lb ((bytes_eq-Decides (name_at decls a) (name_at decls b)).0 one)))))
    | inr other ↦ other ∙ sym differ
  ]
]

-- a component is among others where its name is among theirs
pub named-among : (decls : List Decl) (pools : List ℕ) (pool : ℕ) → are_named_apart decls ≡ true → pool < length decls → All (IsCalled decls) pools → list_any (bytes_eq (name_at decls pool)) (map (name_at decls) pools) ≡ list_any (λ other. other == pool) pools
named-among decls [] pool apart within called = refl
named-among decls (q ∷ pools) pool apart within called =
    ap₂ (λ x y. x || y) (same_names decls pool q apart within (All-head (IsCalled decls) q pools called).declared)
    (named-among decls pools pool apart within (All-tail (IsCalled decls) q pools called))

counted_once : (k : ℕ) (pools : List ℕ) → AreNamedOnce pools → times k pools ≡ one_if (list_any (λ other. other == k) pools)
counted_once k pools once = elim (cases_Bool (list_any (λ other. other == k) pools)) [
  | inl some ↦
      let one : one_if (list_any (λ other. other == k) pools) ≡ 1 = ap one_if some in
      omega (arith, once k, named_counted k pools some)
  | inr none ↦ unnamed_counted k pools none ∙ sym (ap one_if none)
]

-- a list of declared components doesn't have one past them
unlisted : (decls : List Decl) (k : ℕ) (pools : List ℕ) → length decls ≤ k → All (IsCalled decls) pools → list_any (λ other. other == k) pools ≡ false
unlisted decls k [] past called = refl
unlisted decls k (q ∷ pools) past called =
    let within = (All-head (IsCalled decls) q pools called).declared in
    or_from (q == k) _
    (elim (cases_Bool (q == k)) [ inl same ↦ absurd (omega (arith, eqb-true q k same)) | inr other ↦ other ])
    (unlisted decls k pools past (All-tail (IsCalled decls) q pools called))

-- the test by which names name components
abbrev has_one : List Decl → List ℕ → ℕ → Bool
has_one decls order pool = list_any (bytes_eq (name_at decls pool)) (map (name_at decls) order)

named_times : (decls : List Decl) (order : List ℕ) (k : ℕ) → are_named_apart decls ≡ true → All (IsCalled decls) order → one_if (list_any (λ other. other == k) order) ≡ times k (pools_named decls (map (name_at decls) order))
named_times decls order k apart called = elim (cases_Bool (ltb k (length decls))) [
  | inl within ↦
      ap one_if (sym (named-among decls order k apart (ltb-true k (length decls) within) called))
      ∙ sym (times-within (has_one decls order) k 0 (length decls) (omega arith) (let low = ltb-true k (length decls) within in omega arith))
  | inr past ↦
      ap one_if (unlisted decls k order (ltb-false k (length decls) past) called)
      ∙ sym (times-behind (has_one decls order) k 0 (length decls) (let high = ltb-false k (length decls) past in omega arith))
]

-- the components that the names of a list name are those of the list, in ascending number
pub kept_by_names : (decls : List Decl) (order pools : List ℕ) → are_named_apart decls ≡ true → All (IsCalled decls) order → AreNamedOnce order → IsKeptAs order pools → pools ≡ pools_named decls (map (name_at decls) order)
kept_by_names decls order pools apart called once kept =
    same_counts pools (pools_named decls (map (name_at decls) order)) kept.ascending (filter_rises (has_one decls order) 0 (length decls))
    (λ k. sum_by-IsPermutation _ order pools kept.same ∙ counted_once k order once ∙ named_times decls order k apart called)

-- what names name is declared, in ascending number
pub named_are_declared : (decls : List Decl) (names : List (List ℕ)) → are_declared (length decls) (pools_named decls names) ≡ true
named_are_declared decls names = below_all (λ pool. list_any (bytes_eq (name_at decls pool)) names) (length decls) 0 (length decls) (omega arith)

pub named_rise : (decls : List Decl) (names : List (List ℕ)) → IsNonDecreasing (pools_named decls names)
named_rise decls names = filter_rises (λ pool. list_any (bytes_eq (name_at decls pool)) names) 0 (length decls)

-- ---- names of components, none twice

found_at : (name : List ℕ) (decls : List Decl) (from : ℕ) → list_any (has_name name) decls ≡ true → (place : ℕ) × (position_from (has_name name) from decls ≡ Some place)
found_at name [] from h = absurd (false≢true h)
found_at name (decl ∷ decls) from h = elim (cases_Bool (has_name name decl)) [
  | inl here ↦ (from, ap (λ b. cond b (Some from) (position_from (has_name name) (from + 1) decls)) here)
  | inr other ↦
      let rest = found_at name decls (from + 1) (sym (ap (λ b. b || list_any (has_name name) decls) other) ∙ h) in
      (rest.0, ap (λ b. cond b (Some from) (position_from (has_name name) (from + 1) decls)) other ∙ rest.1)
]

some_has : (name : List ℕ) (decls : List Decl) (from place : ℕ) → position_from (has_name name) from decls ≡ Some place → list_any (has_name name) decls ≡ true
some_has name [] from place h = absurd (none-some place h)
some_has name (decl ∷ decls) from place h = elim (cases_Bool (has_name name decl)) [
  | inl here ↦ or_left _ _ here
  | inr other ↦ or_right (has_name name decl) _ (some_has name decls (from + 1) place (sym (ap (λ b. cond b (Some from) (position_from (has_name name) (from + 1) decls)) other) ∙ h))
]

-- components that names name one after another, none twice
pub record AreTold (decls : List Decl) (names : List (List ℕ)) : Type 0 where
  pub order : List ℕ
  pub are : names ≡ map (name_at decls) order
  pub called : All (IsCalled decls) order
  pub once : AreNamedOnce order

once_cons : (decls : List Decl) (pool : ℕ) (order : List ℕ) → are_named_apart decls ≡ true → pool < length decls → All (IsCalled decls) order → AreNamedOnce order → list_any (bytes_eq (name_at decls pool)) (map (name_at decls) order) ≡ false → AreNamedOnce (pool ∷ order)
once_cons decls pool order apart within called once new k =
    let whole : times k (pool ∷ order) ≡ one_if (pool == k) + times k order = times-cons k pool order in
    let few : times k order ≤ 1 = once k in
    elim (cases_Bool (pool == k)) [
      | inl same ↦
          let is : pool ≡ k = eqb-true pool k same in
          let none : times k order ≡ 0 = subst (λ (q : ℕ). times q order ≡ 0) is (unnamed_counted pool order (sym (named-among decls order pool apart within called) ∙ new)) in
          let one : one_if (pool == k) ≡ 1 = ap one_if same in
          omega arith
      | inr other ↦ (let none : one_if (pool == k) ≡ 0 = ap one_if other in omega arith)
    ]

-- names of components, none twice, tell them
pub told : (decls : List Decl) (names : List (List ℕ)) → are_named_apart decls ≡ true → AllByRecursion (λ name. is_name name ≡ true) names → are_of_components decls names ≡ true → AreTold decls names
told decls [] apart form h = record { order = []; are = refl; called = All-nil (IsCalled decls); once = λ k. omega arith }
told decls (name ∷ names) apart form h =
    let tests = and_parts (list_all (λ n. list_any (has_name n) decls) (name ∷ names)) (are_different (name ∷ names)) h in
    let there = and_parts (list_any (has_name name) decls) (list_all (λ n. list_any (has_name n) decls) names) tests.0 in
    let once = and_parts (not (list_any (bytes_eq name) names)) (are_different names) tests.1 in
    let rest = told decls names apart form.1 (and_from _ _ there.1 once.1) in
    let found = found_at name decls 0 there.0 in
    let token : IsNameToken decls name found.0 = record { form = form.0; first = found.1 } in
    let its = token_is_name decls name found.0 token in
    let called = token_called decls name found.0 token in
    record {
      order = found.0 ∷ rest.order;
      are = ap₂ (λ n ns. n ∷ ns) its rest.are;
      called = All-cons (IsCalled decls) found.0 rest.order called rest.called;
      once = once_cons decls found.0 rest.order apart called.declared rest.called rest.once ((λ i. list_any (bytes_eq (sym its i)) (sym rest.are i)) ∙ not-true _ once.0);
    }

once_tail : (pool : ℕ) (order : List ℕ) → AreNamedOnce (pool ∷ order) → AreNamedOnce order
once_tail pool order once k = omega (arith, once k, times-cons k pool order)

once_head : (pool : ℕ) (order : List ℕ) → AreNamedOnce (pool ∷ order) → list_any (λ other. other == pool) order ≡ false
once_head pool order once = elim (cases_Bool (list_any (λ other. other == pool) order)) [
  | inr none ↦ none
  | inl again ↦
      let here : one_if (pool == pool) ≡ 1 = ap one_if (eq-eqb pool pool refl) in
      absurd (omega (arith, once pool, times-cons pool pool order, named_counted pool order again))
]

-- the names of components, none twice, are such names
pub told_back : (decls : List Decl) (order : List ℕ) → are_named_apart decls ≡ true → All (IsCalled decls) order → AreNamedOnce order → are_of_components decls (map (name_at decls) order) ≡ true
told_back decls [] apart called once = refl
told_back decls (pool ∷ order) apart called once =
    let head = All-head (IsCalled decls) pool order called in
    let tail = All-tail (IsCalled decls) pool order called in
    let rest = and_parts _ _ (told_back decls order apart tail (once_tail pool order once)) in
    and_from _ _
    (and_from _ _ (some_has (name_at decls pool) decls 0 pool head.named.first) rest.0)
    (and_from _ _ (not_from_false _ (named-among decls order pool apart head.declared tail ∙ once_head pool order once)) rest.1)

-- and they have the form of names
pub names_formed : (decls : List Decl) (order : List ℕ) → All (IsCalled decls) order → AllByRecursion (λ name. is_name name ≡ true) (map (name_at decls) order)
names_formed decls [] called = tt
names_formed decls (pool ∷ order) called = ((All-head (IsCalled decls) pool order called).named.form, names_formed decls order (All-tail (IsCalled decls) pool order called))

-- ---- one list in another order

record IsSplitAt (x : ℕ) (ys : List ℕ) : Type 0 where
  front : List ℕ
  back : List ℕ
  whole : ys ≡ front ++ x ∷ back

split_at : (x : ℕ) (ys : List ℕ) → 1 ≤ times x ys → IsSplitAt x ys
split_at x [] some = absurd (omega arith)
split_at x (y ∷ ys) some = elim (cases_Bool (y == x)) [
  | inl same ↦ record { front = []; back = ys; whole = ap (λ (z : ℕ). z ∷ ys) (eqb-true y x same) }
  | inr other ↦
      let none : one_if (y == x) ≡ 0 = ap one_if other in
      let rest = split_at x ys (omega (arith, some, times-cons x y ys)) in
      record { front = y ∷ rest.front; back = rest.back; whole = ap (λ (zs : List ℕ). y ∷ zs) rest.whole }
]

-- lists that have each number equally often are in one another's order
permuted : (xs ys : List ℕ) → ((k : ℕ) → times k xs ≡ times k ys) → IsPermutation xs ys
permuted [] [] same = IsPermutation-refl []
permuted [] (y ∷ ys) same =
    let here : one_if (y == y) ≡ 1 = ap one_if (eq-eqb y y refl) in
    absurd (omega (arith, same y, times-cons y y ys))
permuted (x ∷ xs) ys same =
    let here : one_if (x == x) ≡ 1 = ap one_if (eq-eqb x x refl) in
    let cut = split_at x ys (omega (arith, same x, times-cons x x xs)) in
    let rest = permuted xs (cut.front ++ cut.back) (λ k.
    omega (arith, same k, times-cons k x xs, ap (times k) cut.whole, times-append k cut.front (x ∷ cut.back), times-cons k x cut.back, times-append k cut.front cut.back)) in
    let moved = IsPermutation-append_left cut.back (x ∷ cut.front) (cut.front ++ x ∷ []) (IsPermutation-sym _ _ (IsPermutation-to_front cut.front x)) in
    subst (λ (zs : List ℕ). IsPermutation (x ∷ xs) zs) (append_assoc cut.front (x ∷ []) cut.back ∙ sym cut.whole)
    (IsPermutation-trans _ _ _ (IsPermutation-cons x xs (cut.front ++ cut.back) rest) moved)

-- what names name are their components, in some order
pub named_permuted : (decls : List Decl) (order : List ℕ) → are_named_apart decls ≡ true → All (IsCalled decls) order → AreNamedOnce order → IsPermutation order (pools_named decls (map (name_at decls) order))
named_permuted decls order apart called once =
    permuted order (pools_named decls (map (name_at decls) order)) (λ k. counted_once k order once ∙ named_times decls order k apart called)

-- ---- a list and the order in which its components are named

-- the same components are named in any order
pub called_permuted : (decls : List Decl) (order pools : List ℕ) → IsPermutation order pools → All (IsCalled decls) pools → All (IsCalled decls) order
called_permuted decls order pools same called = All-permutation (IsCalled decls) pools order (IsPermutation-sym order pools same) called

pub once_permuted : (order pools : List ℕ) → IsPermutation order pools → AreNamedOnce pools → AreNamedOnce order
once_permuted order pools same once k = omega (arith, once k, sum_by-IsPermutation (λ other. one_if (other == k)) order pools same)
