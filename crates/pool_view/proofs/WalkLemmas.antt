-- A walk from the back of a list, and the sets that it has to ask.
use Rattle.std.proofs.Common.{◌≡◌, ℕ, zero, suc, ◌+◌, ◌<◌, ◌≤◌, Bool, true, false, cond, not, ◌&&◌, List, [], ◌∷◌, ◌++◌, get_or, take, drop, reverse, length, Some, slice_get, ◌≢◌, sym, refl, ap, ◌∙◌, arith}
use Rattle.std.specs.Prelude.{filter}
use Rattle.std.specs.List.{list_all, list_any}
use Rattle.std.proofs.lemmas.Bool.{or_left, or_right}
use Rattle.std.proofs.lemmas.List.{take-append-drop, drop_more, reverse-append, length-reverse}
use Rattle.std.proofs.lemmas.Option.{none-some, same_Some}
use Rattle.std.proofs.lemmas.List.Folds.{list_all-append}
use Rattle.std.proofs.lemmas.List.Sorted.{list_any-IsPermutation, IsPermutation-reverse}
use Rattle.entity_id.specs.declared.entity.Entity.{Entity}
use Rattle.entity_id.specs.Identifiers.{is_same}
use Rattle.entity_id.specs.FiniteMap.{AreDistinctBy}
use Rattle.entity_id.proofs.MapLemmas.{same_itself}
use Rattle.entity_id.proofs.PackedListLemmas.{distinct-permutation}
use Rattle.sparse_set.specs.PackedSets.{contains, AreDistinct}
use Rattle.pool_view.specs.ViewedSets.{is_in_all, is_in_one, is_viewed, leading_place, walk_of}
use Rattle.pool_view.specs.HeldSets.{is_viewed_beside}

-- ---- one step from the back

walk_last : {X : Type 0} (p : X → Bool) (xs front : List X) (x : X) → xs ≡ front ++ x ∷ [] → filter p (reverse xs) ≡ cond (p x) (x ∷ filter p (reverse front)) (filter p (reverse front))
walk_last p xs front x e = ap (λ l. filter p (reverse l)) e ∙ ap (filter p) (reverse-append front (x ∷ []))

pub walk_skips : {X : Type 0} (p : X → Bool) (xs front : List X) (x : X) → xs ≡ front ++ x ∷ [] → p x ≡ false → filter p (reverse xs) ≡ filter p (reverse front)
walk_skips p xs front x e is = walk_last p xs front x e ∙ ap (λ b. cond b (x ∷ filter p (reverse front)) (filter p (reverse front))) is

pub walk_gives : {X : Type 0} (p : X → Bool) (xs front : List X) (x : X) → xs ≡ front ++ x ∷ [] → p x ≡ true → filter p (reverse xs) ≡ x ∷ filter p (reverse front)
walk_gives p xs front x e is = walk_last p xs front x e ∙ ap (λ b. cond b (x ∷ filter p (reverse front)) (filter p (reverse front))) is

-- ---- a walk has no more than its list

kept_le : {X : Type 0} (b : Bool) (x : X) (ys : List X) → length (cond b (x ∷ ys) ys) ≤ suc (length ys)
kept_le true x ys = omega arith
kept_le false x ys = omega arith

length-filter_le : {X : Type 0} (p : X → Bool) (xs : List X) → length (filter p xs) ≤ length xs
length-filter_le p [] = omega arith
length-filter_le p (x ∷ xs) = omega (arith, kept_le (p x) x (filter p xs), length-filter_le p xs)

-- ---- of the leading set only the others need be asked

-- two tests that agree at what stands in a list keep the same of it
filter_agree_within : (p q : Entity → Bool) (es : List Entity) → ((e : Entity) → list_any (is_same e) es ≡ true → p e ≡ q e) → filter p es ≡ filter q es
filter_agree_within p q [] agree = refl
filter_agree_within p q (e ∷ es) agree =
    ap (λ b. cond b (e ∷ filter p es) (filter p es)) (agree e (or_left _ _ (same_itself e)))
    ∙ ap (λ l. cond (q e) (e ∷ l) l) (filter_agree_within p q es (λ f is. agree f (or_right _ _ is)))

drop_true : (a b c d : Bool) → b ≡ true → (a && (c && d)) ≡ ((a && (b && c)) && d)
drop_true true true c d is = refl
drop_true false b c d is = refl
drop_true true false c d is = absurd (cc)

-- what a set contains is viewed where the sets before it and behind it contain it
viewed_beside : (included excluded : List (List Entity)) (k : ℕ) (e : Entity) → k < length included → contains (get_or included k []) e ≡ true
    → is_viewed_beside (take k included) (drop (k + 1) included) excluded e ≡ is_viewed (record { included = included; excluded = excluded }) e
viewed_beside included excluded k e low is =
    let test = λ (set : List Entity). contains set e in
    let split : take k included ++ get_or included k [] ∷ drop (k + 1) included ≡ included = ap (λ l. take k included ++ l) (sym (drop_more included k [] low)) ∙ take-append-drop k included in
    drop_true (is_in_all (take k included) e) (contains (get_or included k []) e) (is_in_all (drop (k + 1) included) e) (not (is_in_one excluded e)) is
    ∙ ap (λ b. b && not (is_in_one excluded e)) (sym (list_all-append test (take k included) (get_or included k [] ∷ drop (k + 1) included)) ∙ ap (list_all test) split)

walk_beside : (included excluded : List (List Entity)) (k : ℕ) → k < length included
    → filter (is_viewed_beside (take k included) (drop (k + 1) included) excluded) (reverse (get_or included k []))
    ≡ filter (is_viewed (record { included = included; excluded = excluded })) (reverse (get_or included k []))
walk_beside included excluded k low = filter_agree_within _ _ (reverse (get_or included k [])) (λ e is.
    viewed_beside included excluded k e low (list_any-IsPermutation (is_same e) _ _ (IsPermutation-reverse (get_or included k [])) ∙ is))

-- the walk of the leading set, as its other sets are asked
pub walk_is : (included excluded : List (List Entity)) (k : ℕ) → k ≡ leading_place included → k < length included
    → filter (is_viewed_beside (take k included) (drop (k + 1) included) excluded) (reverse (get_or included k [])) ≡ walk_of (record { included = included; excluded = excluded })
walk_is included excluded k place low =
    walk_beside included excluded k low ∙ ap (λ j. filter (is_viewed (record { included = included; excluded = excluded })) (reverse (get_or included j []))) place

-- ---- a walk gives each index once

from_kept : {X : Type 0} (b : Bool) (x : X) (ys xs : List X) → ((k : ℕ) (y : X) → slice_get ys k ≡ Some y → (j : ℕ) × (slice_get xs j ≡ Some y)) → (k : ℕ) (y : X) → slice_get (cond b (x ∷ ys) ys) k ≡ Some y → (j : ℕ) × (slice_get (x ∷ xs) j ≡ Some y)
from_kept true x ys xs from zero y at = (zero, at)
from_kept true x ys xs from (suc k) y at = let found = from k y at in (suc found.0, found.1)
from_kept false x ys xs from k y at = let found = from k y at in (suc found.0, found.1)

from_filter : {X : Type 0} (p : X → Bool) (xs : List X) (k : ℕ) (y : X) → slice_get (filter p xs) k ≡ Some y → (j : ℕ) × (slice_get xs j ≡ Some y)
from_filter p [] k y at = absurd (none-some y at)
from_filter p (x ∷ xs) k y at = from_kept (p x) x (filter p xs) xs (λ j z g. from_filter p xs j z g) k y at

pub distinct_tail : {X : Type 0} (n : X → ℕ) (x : X) (xs : List X) → AreDistinctBy n (x ∷ xs) → AreDistinctBy n xs
distinct_tail n x xs h i j a b at_i at_j same = let e : suc i ≡ suc j = h (suc i) (suc j) a b at_i at_j same in omega (arith, e)

distinct_cons : {X : Type 0} (n : X → ℕ) (x : X) (xs : List X) → ((k : ℕ) (y : X) → slice_get xs k ≡ Some y → n x ≢ n y) → AreDistinctBy n xs → AreDistinctBy n (x ∷ xs)
distinct_cons n x xs apart h zero zero a b at_i at_j same = refl
distinct_cons n x xs apart h zero (suc j) a b at_i at_j same = absurd (apart j b at_j (ap n (same_Some x a at_i) ∙ same))
distinct_cons n x xs apart h (suc i) zero a b at_i at_j same = absurd (apart i a at_i (ap n (same_Some x b at_j) ∙ sym same))
distinct_cons n x xs apart h (suc i) (suc j) a b at_i at_j same = ap suc (h i j a b at_i at_j same)

pub distinct-filter : {X : Type 0} (n : X → ℕ) (p : X → Bool) (xs : List X) → AreDistinctBy n xs → AreDistinctBy n (filter p xs)
distinct-filter n p [] h = h
distinct-filter n p (x ∷ xs) h =
    let rest = distinct-filter n p xs (distinct_tail n x xs h) in
    elim (p x) as (λ b. AreDistinctBy n (cond b (x ∷ filter p xs) (filter p xs))) [
      | true ↦ distinct_cons n x (filter p xs) (λ k y at same. let found = from_filter p xs k y at in let e : 0 ≡ suc found.0 = h zero (suc found.0) x y refl found.1 same in omega (arith, e)) rest
      | false ↦ rest
    ]

pub distinct_walk : (p : Entity → Bool) (xs : List Entity) → AreDistinct xs → AreDistinct (filter p (reverse xs))
distinct_walk p xs h = distinct-filter (λ (e : Entity). e.index) p (reverse xs) (distinct-permutation (λ (e : Entity). e.index) xs (reverse xs) (IsPermutation-reverse xs) h)

pub length_walk : (p : Entity → Bool) (xs : List Entity) → length (filter p (reverse xs)) ≤ length xs
length_walk p xs = omega (arith, length-filter_le p (reverse xs), length-reverse xs)
