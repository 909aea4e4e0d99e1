-- Elements of a list that pass a test, and one that is replaced.
use Rattle.std.proofs.Common.{◌≡◌, ℕ, zero, suc, ◌<◌, Bool, true, false, ◌||◌, eqb, List, [], ◌∷◌, set, map, length, get_or, refl, ap, ◌∙◌, arith}
use Rattle.std.specs.List.{list_any}
use Rattle.std.proofs.lemmas.Bool.{false≢true}

module _ {X : Type 0} (test : X → Bool) where
  -- no element before the end passes, and so none does
  pub none_passes : (xs : List X) → ((k : ℕ) (x : X) → k < length xs → test (get_or xs k x) ≡ false) → list_any test xs ≡ false
  none_passes [] none = refl
  none_passes (x ∷ xs) none = ap (λ b. b || list_any test xs) (none 0 x (omega arith)) ∙ none_passes xs (λ k y low. none (suc k) y (omega (arith, low)))

  -- one passes, and so there is a place where one does
  pub any_place : (xs : List X) (d : X) → list_any test xs ≡ true → (k : ℕ) × (k < length xs) × (test (get_or xs k d) ≡ true)
  any_place [] d some = absurd (false≢true some)
  any_place (x ∷ xs) d some = by (test x) refl some (any_place xs d)
    where
      by : (b : Bool) → test x ≡ b → (b || list_any test xs) ≡ true → (list_any test xs ≡ true → (k : ℕ) × (k < length xs) × (test (get_or xs k d) ≡ true))
          → (k : ℕ) × (k < suc (length xs)) × (test (get_or (x ∷ xs) k d) ≡ true)
      by true e some rest = (0, omega arith, e)
      by false e some rest = let found = rest some in (suc found.0, omega (arith, found.1), found.2)

  or_swap : (a b c : Bool) → (a || (b || c)) ≡ (b || (a || c))
  or_swap true true c = refl
  or_swap true false c = refl
  or_swap false b c = refl

  covers : (a b c : Bool) → (b ≡ true → a ≡ true) → (a || c) ≡ (a || (b || c))
  covers true b c h = refl
  covers false true c h = absurd (false≢true (h refl))
  covers false false c h = refl

  -- an element is replaced by one that passes where it did
  pub any-set : (xs : List X) (i : ℕ) (y d : X) → i < length xs → (test (get_or xs i d) ≡ true → test y ≡ true) → list_any test (set xs i y) ≡ (test y || list_any test xs)
  any-set [] i y d low more = absurd (omega (arith, low))
  any-set (x ∷ xs) zero y d low more = covers (test y) (test x) (list_any test xs) more
  any-set (x ∷ xs) (suc i) y d low more = ap (λ b. test x || b) (any-set xs i y d (omega (arith, low)) more) ∙ or_swap (test x) (test y) (list_any test xs)

  -- an element is replaced by one that passes exactly where it did
  pub any-set_same : (xs : List X) (i : ℕ) (y d : X) → test y ≡ test (get_or xs i d) → list_any test (set xs i y) ≡ list_any test xs
  any-set_same [] i y d same = refl
  any-set_same (x ∷ xs) zero y d same = ap (λ b. b || list_any test xs) same
  any-set_same (x ∷ xs) (suc i) y d same = ap (λ b. test x || b) (any-set_same xs i y d same)

-- an item of a list of what f gives
pub any-map : {X : Type 0} (f : X → ℕ) (xs : List X) (q : ℕ) → list_any (λ x. eqb (f x) q) xs ≡ list_any (λ other. eqb other q) (map f xs)
any-map f [] q = refl
any-map f (x ∷ xs) q = ap (λ b. eqb (f x) q || b) (any-map f xs q)
