-- Lists put in the order of a number.
use Rattle.std.specs.Prelude.{◌≡◌, ℕ, ◌≤◌, ◌==◌, List, [], ◌∷◌, filter}
use Rattle.std.specs.List.{AllByRecursion}

-- the items of one number, in their order
abbrev pub of_number : {X : Type 0} → (X → ℕ) → ℕ → List X → List X
of_number number i xs = filter (λ x. number x == i) xs

-- two lists have, of each number, the same items in the same order
abbrev pub HasSameParts : {X : Type 0} → (X → ℕ) → List X → List X → Type 0
HasSameParts number xs ys = (i : ℕ) → of_number number i xs ≡ of_number number i ys

-- a number that may come more than once, but never falls from one item to a later one
abbrev pub NeverFalls : {X : Type 0} → (X → ℕ) → List X → Type 0
NeverFalls number [] = Unit {0}
NeverFalls number (x ∷ xs) = AllByRecursion (λ y. number x ≤ number y) xs × NeverFalls number xs

-- a list put in the order of a number: the items of one number keep their order
pub record IsSettled {X : Type 0} (number : X → ℕ) (old new : List X) : Type 0 where
  pub ascending : NeverFalls number new
  pub parts : HasSameParts number new old
