-- Lists after a change: look-ups by number, facts of each item, and two lists place by place.
use Rattle.std.proofs.Common.{◌≡◌, ℕ, zero, suc, ◌+◌, ◌<◌, ◌≢◌, ◌∙◌, inl, inr, Bool, true, false, cond, List, [], ◌∷◌, ◌++◌, map, set, get_or, length, Some, None, slice_get, replicate, sym, refl, ap, arith}
use Rattle.std.specs.Prelude.{filter}
use Rattle.std.specs.List.{AllByRecursion, AllZip, position_from}
use Rattle.std.specs.Option.{option_map_or}
use Rattle.std.proofs.lemmas.Bool.{cases_lt, false≢true}
use Rattle.std.proofs.lemmas.Option.{none-some, slice_get_past}

-- an item that passes a test is there
pub passes_within : {X : Type 0} (test : X → Bool) (xs : List X) (i : ℕ) → option_map_or test (slice_get xs i) false ≡ true → i < length xs
passes_within test xs i h =
    elim (cases_lt i (length xs)) [
      | inl less ↦ less
      | inr more ↦ absurd (false≢true (sym (ap (λ found. option_map_or test found false) (slice_get_past xs i more)) ∙ h))
    ]

pub slice_get-set_same : {X : Type 0} (xs : List X) (i : ℕ) (y : X) → i < length xs → slice_get (set xs i y) i ≡ Some y
slice_get-set_same [] i y h = absurd (omega arith)
slice_get-set_same (x ∷ xs) zero y h = refl
slice_get-set_same (x ∷ xs) (suc i) y h = slice_get-set_same xs i y (omega arith)

pub slice_get-set_other : {X : Type 0} (xs : List X) (i j : ℕ) (y : X) → j ≢ i → slice_get (set xs i y) j ≡ slice_get xs j
slice_get-set_other [] i j y h = refl
slice_get-set_other (x ∷ xs) zero zero y h = absurd (h refl)
slice_get-set_other (x ∷ xs) zero (suc j) y h = refl
slice_get-set_other (x ∷ xs) (suc i) zero y h = refl
slice_get-set_other (x ∷ xs) (suc i) (suc j) y h = slice_get-set_other xs i j y (λ e. h (ap suc e))

pub slice_get-append : {X : Type 0} (xs ys : List X) (i : ℕ) → i < length xs → slice_get (xs ++ ys) i ≡ slice_get xs i
slice_get-append [] ys i h = absurd (omega arith)
slice_get-append (x ∷ xs) ys zero h = refl
slice_get-append (x ∷ xs) ys (suc i) h = slice_get-append xs ys i (omega arith)

pub all-set : {X : Type 0} (P : X → Type 0) (xs : List X) (i : ℕ) (y : X) → AllByRecursion P xs → P y → AllByRecursion P (set xs i y)
all-set P [] i y h here = h
all-set P (x ∷ xs) zero y h here = (here, h.1)
all-set P (x ∷ xs) (suc i) y h here = (h.0, all-set P xs i y h.1 here)

-- of what a filter keeps, from what held before and its test
pub all-filter_both : {X : Type 0} (P Q : X → Type 0) (p : X → Bool) → ((x : X) → P x → p x ≡ true → Q x) → (xs : List X) → AllByRecursion P xs → AllByRecursion Q (filter p xs)
all-filter_both P Q p w [] h = tt
all-filter_both P Q p w (x ∷ xs) h =
    elim (p x) as (λ b. p x ≡ b → AllByRecursion Q (cond b (x ∷ filter p xs) (filter p xs))) [
      | true ↦ λ k. (w x h.0 k, all-filter_both P Q p w xs h.1)
      | false ↦ λ k. all-filter_both P Q p w xs h.1
    ] refl

pub all_zip_weaker : {A B : Type 0} (R S : A → B → Type 0) → ((a : A) (b : B) → R a b → S a b) → (xs : List A) (ys : List B) → AllZip R xs ys → AllZip S xs ys
all_zip_weaker R S w [] [] h = tt
all_zip_weaker R S w [] (y ∷ ys) h = h
all_zip_weaker R S w (x ∷ xs) [] h = h
all_zip_weaker R S w (x ∷ xs) (y ∷ ys) h = (w x y h.0, all_zip_weaker R S w xs ys h.1)

pub all_zip-map : {A B : Type 0} (R S : A → B → Type 0) (f : B → B) → ((a : A) (b : B) → R a b → S a (f b)) → (xs : List A) (ys : List B) → AllZip R xs ys → AllZip S xs (map f ys)
all_zip-map R S f w [] [] h = tt
all_zip-map R S f w [] (y ∷ ys) h = h
all_zip-map R S f w (x ∷ xs) [] h = h
all_zip-map R S f w (x ∷ xs) (y ∷ ys) h = (w x y h.0, all_zip-map R S f w xs ys h.1)

pub all_zip-set : {A B : Type 0} (R : A → B → Type 0) (xs : List A) (ys : List B) (i : ℕ) (d y : B) → AllZip R xs ys → ((x : A) → slice_get xs i ≡ Some x → R x (get_or ys i d) → R x y) → AllZip R xs (set ys i y)
all_zip-set R [] [] i d y h w = tt
all_zip-set R [] (z ∷ ys) i d y h w = absurd h
all_zip-set R (x ∷ xs) [] i d y h w = h
all_zip-set R (x ∷ xs) (z ∷ ys) zero d y h w = (w x refl h.0, h.1)
all_zip-set R (x ∷ xs) (z ∷ ys) (suc i) d y h w = (h.0, all_zip-set R xs ys i d y h.1 w)

-- where no item is found, none passes the test
pub position_none : {X : Type 0} (t : X → Bool) (i : ℕ) (xs : List X) → position_from t i xs ≡ None → AllByRecursion (λ x. t x ≡ false) xs
position_none t i [] h = tt
position_none t i (x ∷ xs) h =
    elim (t x) as (λ b. t x ≡ b → cond b (Some i) (position_from t (i + 1) xs) ≡ None → AllByRecursion (λ x. t x ≡ false) (x ∷ xs)) [
      | true ↦ λ k g. absurd (none-some i (sym g))
      | false ↦ λ k g. (k, position_none t (i + 1) xs g)
    ] refl h

pub all-replicate : {X : Type 0} (P : X → Type 0) (n : ℕ) (x : X) → P x → AllByRecursion P (replicate n x)
all-replicate P zero x h = tt
all-replicate P (suc n) x h = (h, all-replicate P n x h)
