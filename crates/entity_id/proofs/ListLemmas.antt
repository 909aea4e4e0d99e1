-- What holds of each item of a list, what stands at a place after a change, and lists in ascending order.
use Rattle.std.proofs.Common.{ℕ, zero, suc, ◌<◌, ◌≤◌, ◌≡◌, ◌≢◌, Bool, true, false, cond, List, [], ◌∷◌, ◌++◌, map, set, length, Some, None, slice_get, sym, ap, ap₂, arith, refl, subst}
use Rattle.std.specs.Prelude.{filter}
use Rattle.std.specs.List.{AllByRecursion}
use Rattle.std.proofs.lemmas.Option.{none-some, same_Some}
use Rattle.entity_id.specs.FiniteMap.{IsAscendingBy}

pub all-filter : {X : Type 0} (P : X → Type 0) (p : X → Bool) (xs : List X) → AllByRecursion P xs → AllByRecursion P (filter p xs)
all-filter P p [] h = h
all-filter P p (x ∷ xs) h =
    elim (p x) as (λ b. AllByRecursion P (cond b (x ∷ filter p xs) (filter p xs))) [
      | true ↦ (h.0, all-filter P p xs h.1)
      | false ↦ all-filter P p xs h.1
    ]

-- of each item that a filter keeps, what its test tells holds too
pub all-filter_passes : {X : Type 0} (P : X → Type 0) (p : X → Bool) (xs : List X) → ((x : X) → p x ≡ true → P x) → AllByRecursion P (filter p xs)
all-filter_passes P p [] h = tt
all-filter_passes P p (x ∷ xs) h =
    elim (p x) as (λ b. p x ≡ b → AllByRecursion P (cond b (x ∷ filter p xs) (filter p xs))) [
      | true ↦ λ k. (h x k, all-filter_passes P p xs h)
      | false ↦ λ k. all-filter_passes P p xs h
    ] refl

pub all-append : {X : Type 0} (P : X → Type 0) (xs ys : List X) → AllByRecursion P xs → AllByRecursion P ys → AllByRecursion P (xs ++ ys)
all-append P [] ys g h = h
all-append P (x ∷ xs) ys g h = (g.0, all-append P xs ys g.1 h)

pub all-map : {X Y : Type 0} (P : Y → Type 0) (f : X → Y) (xs : List X) → AllByRecursion (λ x. P (f x)) xs → AllByRecursion P (map f xs)
all-map P f [] h = tt
all-map P f (x ∷ xs) h = (h.0, all-map P f xs h.1)

pub all_weaker : {X : Type 0} (P Q : X → Type 0) → ((x : X) → P x → Q x) → (xs : List X) → AllByRecursion P xs → AllByRecursion Q xs
all_weaker P Q w [] h = tt
all_weaker P Q w (x ∷ xs) h = (w x h.0, all_weaker P Q w xs h.1)

-- what holds of each item holds at a place
pub all_at : {X : Type 0} (P : X → Type 0) (xs : List X) (i : ℕ) (x : X) → AllByRecursion P xs → slice_get xs i ≡ Some x → P x
all_at P [] i x h e = absurd (none-some x e)
all_at P (y ∷ xs) zero x h e = let same : y ≡ x = cc in subst P same h.0
all_at P (y ∷ xs) (suc i) x h e = all_at P xs i x h.1 e

pub ascending-filter : {X : Type 0} (n : X → ℕ) (p : X → Bool) (xs : List X) → IsAscendingBy n xs → IsAscendingBy n (filter p xs)
ascending-filter n p [] h = tt
ascending-filter n p (x ∷ xs) h =
    elim (p x) as (λ b. IsAscendingBy n (cond b (x ∷ filter p xs) (filter p xs))) [
      | true ↦ (all-filter _ p xs h.0, ascending-filter n p xs h.1)
      | false ↦ ascending-filter n p xs h.1
    ]

pub ascending-append : {X : Type 0} (n : X → ℕ) (xs ys : List X) → IsAscendingBy n xs → IsAscendingBy n ys → AllByRecursion (λ x. AllByRecursion (λ y. n x < n y) ys) xs → IsAscendingBy n (xs ++ ys)
ascending-append n [] ys g h between = h
ascending-append n (x ∷ xs) ys g h between = (all-append _ xs ys g.0 between.0, ascending-append n xs ys g.1 h between.1)

pub ascending-map : {X Y : Type 0} (n : Y → ℕ) (f : X → Y) (xs : List X) → IsAscendingBy (λ x. n (f x)) xs → IsAscendingBy n (map f xs)
ascending-map n f [] h = tt
ascending-map n f (x ∷ xs) h = (all-map _ f xs h.0, ascending-map n f xs h.1)

pub slice_get-set_same : {X : Type 0} (xs : List X) (i : ℕ) (y : X) → i < length xs → slice_get (set xs i y) i ≡ Some y
slice_get-set_same [] i y h = absurd (omega arith)
slice_get-set_same (x ∷ xs) zero y h = refl
slice_get-set_same (x ∷ xs) (suc i) y h = slice_get-set_same xs i y (omega arith)

pub slice_get-set_other : {X : Type 0} (xs : List X) (i j : ℕ) (y : X) → j ≢ i → slice_get (set xs i y) j ≡ slice_get xs j
slice_get-set_other [] i j y h = refl
slice_get-set_other (x ∷ xs) zero zero y h = absurd (h refl)
slice_get-set_other (x ∷ xs) zero (suc j) y h = refl
slice_get-set_other (x ∷ xs) (suc i) zero y h = refl
slice_get-set_other (x ∷ xs) (suc i) (suc j) y h = slice_get-set_other xs i j y (λ e. h (ap suc e))

pub slice_get-append : {X : Type 0} (xs ys : List X) (i : ℕ) → i < length xs → slice_get (xs ++ ys) i ≡ slice_get xs i
slice_get-append [] ys i h = absurd (omega arith)
slice_get-append (x ∷ xs) ys zero h = refl
slice_get-append (x ∷ xs) ys (suc i) h = slice_get-append xs ys i (omega arith)

-- lists with the same at each place are the same
pub equal_by_place : {X : Type 0} (xs ys : List X) → ((k : ℕ) → slice_get xs k ≡ slice_get ys k) → xs ≡ ys
equal_by_place [] [] h = refl
equal_by_place [] (y ∷ ys) h = absurd (none-some y (h 0))
equal_by_place (x ∷ xs) [] h = absurd (none-some x (sym (h 0)))
equal_by_place (x ∷ xs) (y ∷ ys) h = ap₂ (λ z zs. z ∷ zs) (same_Some x y (h 0)) (equal_by_place xs ys (λ k. h (suc k)))

-- where nothing stands, the list has ended
pub past_end : {X : Type 0} (xs : List X) (k : ℕ) → slice_get xs k ≡ None → length xs ≤ k
past_end [] k h = omega arith
past_end (x ∷ xs) zero h = absurd (none-some x (sym h))
past_end (x ∷ xs) (suc k) h = omega (arith, past_end xs k h)
