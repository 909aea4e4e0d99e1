-- A list that never falls is told by those of each number.
use Rattle.std.proofs.Common.{◌≡◌, ℕ, ◌≤◌, ◌==◌, Bool, true, false, cond, List, [], ◌∷◌, refl, sym, ap, ◌∙◌, subst, arith, eqb, eq-eqb}
use Rattle.std.specs.List.{AllByRecursion}
use Rattle.entity_id.proofs.ListLemmas.{all-filter}
use Rattle.system_api.specs.Settling.{of_number, NeverFalls, IsSettled}

module _ {X : Type 0} (n : X → ℕ) where
  here : (x : X) (xs : List X) (i : ℕ) → n x ≡ i → of_number n i (x ∷ xs) ≡ x ∷ of_number n i xs
  here x xs i e = ap (λ b. cond b (x ∷ of_number n i xs) (of_number n i xs)) (eq-eqb (n x) i e)

  low : (x y : X) (ys rest : List X) → NeverFalls n (y ∷ ys) → of_number n (n x) (y ∷ ys) ≡ x ∷ rest → n y ≤ n x
  low x y ys rest falls is =
      let all : AllByRecursion (λ z. n y ≤ n z) (y ∷ ys) = (omega arith, falls.0) in
      let some : AllByRecursion (λ z. n y ≤ n z) (x ∷ rest) = subst (λ (zs : List X). AllByRecursion (λ z. n y ≤ n z) zs) is (all-filter (λ z. n y ≤ n z) (λ z. n z == n x) (y ∷ ys) all) in
      some.0

  tails : (b : Bool) (x y : X) (a c : List X) → cond b (x ∷ a) a ≡ cond b (y ∷ c) c → a ≡ c
  tails true x y a c e = cc
  tails false x y a c e = e

  pub one-list : (xs ys : List X) → NeverFalls n xs → NeverFalls n ys → ((i : ℕ) → of_number n i xs ≡ of_number n i ys) → xs ≡ ys
  one-list [] [] fx fy h = refl
  one-list [] (y ∷ ys) fx fy h = let e = h (n y) ∙ here y ys (n y) refl in absurd (cc)
  one-list (x ∷ xs) [] fx fy h = let e = sym (h (n x)) ∙ here x xs (n x) refl in absurd (cc)
  one-list (x ∷ xs) (y ∷ ys) fx fy h =
      let down : n y ≤ n x = low x y ys (of_number n (n x) xs) fy (sym (h (n x)) ∙ here x xs (n x) refl) in
      let up : n x ≤ n y = low y x xs (of_number n (n y) ys) fx (h (n y) ∙ here y ys (n y) refl) in
      let even : n y ≡ n x = omega arith in
      let heads : x ∷ of_number n (n x) xs ≡ y ∷ of_number n (n x) ys = sym (here x xs (n x) refl) ∙ h (n x) ∙ here y ys (n x) even in
      let same : x ≡ y = cc in
      let rest = one-list xs ys fx.1 fy.1 (λ i. tails (eqb (n x) i) x y (of_number n i xs) (of_number n i ys) (h i ∙ ap (λ k. cond (eqb k i) (y ∷ of_number n i ys) (of_number n i ys)) even)) in
      cc

  -- two lists into which one is settled are the same
  pub settled-once : (old a b : List X) → IsSettled n old a → IsSettled n old b → a ≡ b
  settled-once old a b ha hb = one-list a b ha.ascending hb.ascending (λ i. ha.parts i ∙ sym (hb.parts i))
