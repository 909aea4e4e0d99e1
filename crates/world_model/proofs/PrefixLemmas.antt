-- Lists whose front passes a test, beside all that passes it.
use Rattle.std.proofs.Common.{◌≡◌, ℕ, ◌≤◌, Bool, true, List, [], ◌∷◌, ◌++◌, take, drop, length, sym, refl, ap, ◌∙◌, arith}
use Rattle.std.specs.Prelude.{filter}
use Rattle.std.specs.List.{AllByRecursion}
use Rattle.std.proofs.lemmas.Bool.{cond-true}
use Rattle.std.proofs.lemmas.List.{append-nil, length-append, take-append-drop, length-take, length-take-le}
use Rattle.std.proofs.lemmas.List.Elements.{filter-append}

filter_all : {X : Type 0} (p : X → Bool) (xs : List X) → AllByRecursion (λ x. p x ≡ true) xs → filter p xs ≡ xs
filter_all p [] h = refl
filter_all p (x ∷ xs) h = cond-true (p x) (x ∷ filter p xs) (filter p xs) h.0 ∙ ap (λ l. x ∷ l) (filter_all p xs h.1)

-- where the first so many pass, a filter begins with them
front_kept : {X : Type 0} (p : X → Bool) (n : ℕ) (xs : List X) → AllByRecursion (λ x. p x ≡ true) (take n xs) → filter p xs ≡ take n xs ++ filter p (drop n xs)
front_kept p n xs passes =
    ap (filter p) (sym (take-append-drop n xs))
    ∙ filter-append p (take n xs) (drop n xs)
    ∙ ap (λ l. l ++ filter p (drop n xs)) (filter_all p (take n xs) passes)

empty : {X : Type 0} (xs : List X) → length xs ≡ 0 → xs ≡ []
empty [] none = refl
empty (x ∷ xs) none = absurd (omega arith)

-- and keeps at least so many
pub front_counted : {X : Type 0} (p : X → Bool) (n : ℕ) (xs : List X) → n ≤ length xs → AllByRecursion (λ x. p x ≡ true) (take n xs) → n ≤ length (filter p xs)
front_counted p n xs within passes =
    omega (arith, ap length (front_kept p n xs passes), length-append (take n xs) (filter p (drop n xs)), length-take-le n xs within)

-- where it keeps so many, they are these
pub front_is_all : {X : Type 0} (p : X → Bool) (n : ℕ) (xs : List X) → n ≤ length xs → AllByRecursion (λ x. p x ≡ true) (take n xs) → length (filter p xs) ≡ n → filter p xs ≡ take n xs
front_is_all p n xs within passes counted =
    let parts = front_kept p n xs passes in
    let none : length (filter p (drop n xs)) ≡ 0 = omega (arith, ap length parts, length-append (take n xs) (filter p (drop n xs)), length-take-le n xs within) in
    parts ∙ ap (λ l. take n xs ++ l) (empty (filter p (drop n xs)) none) ∙ append-nil (take n xs)

-- a list is at least as long as its front
pub front_within : {X : Type 0} (n : ℕ) (xs : List X) → length (take n xs) ≡ n → n ≤ length xs
front_within n xs e = omega (arith, length-take n xs)
