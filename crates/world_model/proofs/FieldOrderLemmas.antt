-- Rows by a field: a permutation of the rows, in order.
use Rattle.std.proofs.Common.{◌≡◌, ◌≢◌, ℕ, zero, suc, Bool, true, false, cond, ◌&&◌, ◌||◌, ltb, List, [], ◌∷◌, slice_get, Some, IsPermutation, refl, sym, ◌∙◌, arith, inl, inr, Ordering, Less, Equal, Greater}
use Rattle.std.specs.Prelude.{AllPairs}
use Rattle.std.specs.Cmp.{IsStrictWeakOrder}
use Rattle.std.specs.List.{AllByRecursion}
use Rattle.std.specs.Ordering.{is_eq, is_lt, ordering_then, then_cmp, on, nat_cmp, int_cmp}
use Rattle.std.proofs.lemmas.Bool.{cases_order, lt-ltb, or_left, or_right}
use Rattle.std.proofs.lemmas.Cmp.{nat_cmp_total, int_cmp_total, on_total, then_total}
use Rattle.std.proofs.lemmas.List.Elements.{All-from_recursion}
use Rattle.std.proofs.lemmas.List.Sorted.{ranks_by, IsPermutation-refl, IsPermutation-cons, IsPermutation-trans, IsPermutation-swap}
use Rattle.entity_id.specs.declared.entity.Entity.{Entity}
use Rattle.entity_id.specs.FiniteMap.{AreDistinctBy, HasEachOnce}
use Rattle.entity_id.proofs.ListLemmas.{all_weaker}
use Rattle.world_model.specs.declared.component.Row.{Row}
use Rattle.world_model.specs.Components.{value_at}
use Rattle.world_model.specs.Sorting.{is_before, insert_by_field, rows_by_field}

-- ---- the order

-- rows by the field, and then by the index
abbrev order : ℕ → Entity × Row → Entity × Row → Ordering
order field = then_cmp (on (λ entry. value_at entry.1 field) int_cmp) (on (λ entry. entry.0.index) nat_cmp)

same_test : (a b c d : Bool) → (a || (is_eq (cond a Less (cond b Greater Equal)) && c)) ≡ is_lt (ordering_then (cond a Less (cond b Greater Equal)) (cond c Less (cond d Equal Greater)))
same_test true b c d = refl
same_test false true c d = refl
same_test false false true d = refl
same_test false false false true = refl
same_test false false false false = refl

before_by_order : (field : ℕ) (a b : Entity × Row) → is_before field a b ≡ is_lt (order field a b)
before_by_order field a b = same_test _ _ _ _

is_order : (field : ℕ) → IsStrictWeakOrder (λ a b. is_lt (order field a b))
is_order field = ranks_by (then_total (on_total (λ (entry : Entity × Row). value_at entry.1 field) int_cmp_total) (on_total (λ (entry : Entity × Row). entry.0.index) nat_cmp_total)) (λ entry. entry)

not_both_ways : (field : ℕ) (a b : Entity × Row) → is_before field a b ≡ true → is_before field b a ≡ false
not_both_ways field a b h = before_by_order field b a ∙ (is_order field).one_way a b (sym (before_by_order field a b) ∙ h)

not_before_on : (field : ℕ) (a b c : Entity × Row) → is_before field a b ≡ false → is_before field b c ≡ false → is_before field a c ≡ false
not_before_on field a b c g h =
    before_by_order field a c ∙ (is_order field).chain a b c (sym (before_by_order field a b) ∙ g) (sym (before_by_order field b c) ∙ h)

other_way : (a b c d : Bool) → (b || (is_eq (cond b Less (cond a Greater Equal)) && d)) ≡ false → (c || d) ≡ true → (a || (is_eq (cond a Less (cond b Greater Equal)) && c)) ≡ true
other_way true b c d none some = refl
other_way false true c d none some = absurd cc
other_way false false true d none some = refl
other_way false false false d none some = absurd cc

-- of two rows of different index one comes before the other
one_before : (field : ℕ) (a b : Entity × Row) → b.0.index ≢ a.0.index → is_before field b a ≡ false → is_before field a b ≡ true
one_before field a b apart h = other_way _ _ (ltb a.0.index b.0.index) (ltb b.0.index a.0.index) h (elim (cases_order a.0.index b.0.index) [
  | inl same ↦ absurd (apart (sym same))
  | inr (inl less) ↦ or_left _ _ (lt-ltb a.0.index b.0.index less)
  | inr (inr more) ↦ or_right _ _ (lt-ltb b.0.index a.0.index more)
])

-- ---- of each item and each behind it

abbrev OfEachTwo : {X : Type 0} → (X → X → Type 0) → List X → Type 0
OfEachTwo R [] = Unit {0}
OfEachTwo R (x ∷ xs) = AllByRecursion (R x) xs × OfEachTwo R xs

all_pairs : {X : Type 0} (R : X → X → Type 0) (xs : List X) → OfEachTwo R xs → AllPairs R xs
all_pairs R [] h i j d less within = absurd (omega arith)
all_pairs R (x ∷ xs) h i zero d less within = absurd (omega arith)
all_pairs R (x ∷ xs) h zero (suc j) d less within = All-from_recursion (R x) xs h.0 j d (omega arith)
all_pairs R (x ∷ xs) h (suc i) (suc j) d less within = all_pairs R xs h.1 i j d (omega arith) (omega arith)

all_both : {X : Type 0} (P Q S : X → Type 0) → ((x : X) → P x → Q x → S x) → (xs : List X) → AllByRecursion P xs → AllByRecursion Q xs → AllByRecursion S xs
all_both P Q S w [] g h = tt
all_both P Q S w (x ∷ xs) g h = (w x g.0 h.0, all_both P Q S w xs g.1 h.1)

each_two_both : {X : Type 0} (P Q S : X → X → Type 0) → ((x y : X) → P x y → Q x y → S x y) → (xs : List X) → OfEachTwo P xs → OfEachTwo Q xs → OfEachTwo S xs
each_two_both P Q S w [] g h = tt
each_two_both P Q S w (x ∷ xs) g h = (all_both (P x) (Q x) (S x) (w x) xs g.0 h.0, each_two_both P Q S w xs g.1 h.1)

all_from_places : {X : Type 0} (P : X → Type 0) (xs : List X) → ((i : ℕ) (x : X) → slice_get xs i ≡ Some x → P x) → AllByRecursion P xs
all_from_places P [] h = tt
all_from_places P (x ∷ xs) h = (h zero x refl, all_from_places P xs (λ i y e. h (suc i) y e))

apart_from_distinct : {X : Type 0} (number : X → ℕ) (xs : List X) → AreDistinctBy number xs → OfEachTwo (λ x y. number y ≢ number x) xs
apart_from_distinct number [] h = tt
apart_from_distinct number (x ∷ xs) h = (
  all_from_places (λ y. number y ≢ number x) xs (λ i y e same. let no : suc i ≡ zero = h (suc i) zero y x e refl same in omega arith),
  apart_from_distinct number xs (λ i j y z p q same. let next : suc i ≡ suc j = h (suc i) (suc j) y z p q same in omega arith),
)

-- ---- a row put in its place

all-insert : (field : ℕ) (P : Entity × Row → Type 0) (entry : Entity × Row) (rows : List (Entity × Row)) → AllByRecursion P rows → P entry → AllByRecursion P (insert_by_field field entry rows)
all-insert field P entry [] h here = (here, tt)
all-insert field P entry (next ∷ rest) h here =
    elim (is_before field entry next) as (λ b. AllByRecursion P (cond b (entry ∷ next ∷ rest) (next ∷ insert_by_field field entry rest))) [
      | true ↦ (here, h)
      | false ↦ (h.0, all-insert field P entry rest h.1 here)
    ]

-- a relation that holds both ways goes on holding of each two
each_two-insert : (field : ℕ) (R : Entity × Row → Entity × Row → Type 0) → ((a b : Entity × Row) → R a b → R b a) → (entry : Entity × Row) (rows : List (Entity × Row)) → OfEachTwo R rows → AllByRecursion (R entry) rows → OfEachTwo R (insert_by_field field entry rows)
each_two-insert field R back entry [] h here = (tt, tt)
each_two-insert field R back entry (next ∷ rest) h here =
    elim (is_before field entry next) as (λ b. OfEachTwo R (cond b (entry ∷ next ∷ rest) (next ∷ insert_by_field field entry rest))) [
      | true ↦ (here, h)
      | false ↦ (all-insert field (R next) entry rest h.0 (back entry next here.0), each_two-insert field R back entry rest h.1 here.1)
    ]

in_order-insert : (field : ℕ) (entry : Entity × Row) (rows : List (Entity × Row)) → OfEachTwo (λ a b. is_before field b a ≡ false) rows → OfEachTwo (λ a b. is_before field b a ≡ false) (insert_by_field field entry rows)
in_order-insert field entry [] h = (tt, tt)
in_order-insert field entry (next ∷ rest) h =
    elim (is_before field entry next) as (λ t. is_before field entry next ≡ t → OfEachTwo (λ a b. is_before field b a ≡ false) (cond t (entry ∷ next ∷ rest) (next ∷ insert_by_field field entry rest))) [
      | true ↦ λ before.
          let here = not_both_ways field entry next before in
          ((here, all_weaker _ _ (λ y behind. not_before_on field y next entry behind here) rest h.0), h)
      | false ↦ λ not_before. (all-insert field (λ y. is_before field y next ≡ false) entry rest h.0 not_before, in_order-insert field entry rest h.1)
    ] refl

permutation-insert : (field : ℕ) (entry : Entity × Row) (rows : List (Entity × Row)) → IsPermutation (entry ∷ rows) (insert_by_field field entry rows)
permutation-insert field entry [] = IsPermutation-refl (entry ∷ [])
permutation-insert field entry (next ∷ rest) =
    elim (is_before field entry next) as (λ t. IsPermutation (entry ∷ next ∷ rest) (cond t (entry ∷ next ∷ rest) (next ∷ insert_by_field field entry rest))) [
      | true ↦ IsPermutation-refl (entry ∷ next ∷ rest)
      | false ↦
          IsPermutation-trans _ _ _
          (IsPermutation-swap (entry ∷ next ∷ rest) (next ∷ entry ∷ rest) 0 1 (omega arith) (omega arith) refl)
          (IsPermutation-cons next (entry ∷ rest) (insert_by_field field entry rest) (permutation-insert field entry rest))
    ]

-- ---- all rows

all-sorted : (field : ℕ) (P : Entity × Row → Type 0) (rows : List (Entity × Row)) → AllByRecursion P rows → AllByRecursion P (rows_by_field field rows)
all-sorted field P [] h = tt
all-sorted field P (entry ∷ rest) h = all-insert field P entry (rows_by_field field rest) (all-sorted field P rest h.1) h.0

pub permutation-sorted : (field : ℕ) (rows : List (Entity × Row)) → IsPermutation rows (rows_by_field field rows)
permutation-sorted field [] = IsPermutation-refl []
permutation-sorted field (entry ∷ rest) =
    IsPermutation-trans _ _ _ (IsPermutation-cons entry rest (rows_by_field field rest) (permutation-sorted field rest)) (permutation-insert field entry (rows_by_field field rest))

sorted : (field : ℕ) (rows : List (Entity × Row)) → OfEachTwo (λ a b. is_before field b a ≡ false) (rows_by_field field rows)
sorted field [] = tt
sorted field (entry ∷ rest) = in_order-insert field entry (rows_by_field field rest) (sorted field rest)

apart : (field : ℕ) (rows : List (Entity × Row)) → OfEachTwo (λ a b. b.0.index ≢ a.0.index) rows → OfEachTwo (λ a b. b.0.index ≢ a.0.index) (rows_by_field field rows)
apart field [] h = tt
apart field (entry ∷ rest) h =
    each_two-insert field (λ a b. b.0.index ≢ a.0.index) (λ a b ne same. ne (sym same)) entry (rows_by_field field rest)
    (apart field rest h.1) (all-sorted field (λ b. b.0.index ≢ entry.0.index) rest h.0)

-- no row comes before one that stands in front of it
pub in_order-sorted : (field : ℕ) (rows : List (Entity × Row)) → AllPairs (λ earlier later. is_before field later earlier ≡ false) (rows_by_field field rows)
in_order-sorted field rows = all_pairs _ _ (sorted field rows)

-- where no index comes twice, each row comes before those behind it
pub ascending-sorted : (field : ℕ) (rows : List (Entity × Row)) → HasEachOnce rows → AllPairs (λ earlier later. is_before field earlier later ≡ true) (rows_by_field field rows)
ascending-sorted field rows once =
    all_pairs _ _ (each_two_both _ _ _ (λ a b behind ne. one_before field a b ne behind) (rows_by_field field rows) (sorted field rows) (apart field rows (apart_from_distinct _ rows once)))
