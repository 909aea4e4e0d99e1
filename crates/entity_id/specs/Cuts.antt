-- Texts cut at a byte.
use Rattle.std.specs.Prelude.{◌≡◌, ◌≢◌, ℕ, List, ◌∷◌, ◌++◌}
use Rattle.std.specs.List.{AllByRecursion}

-- the text has no such byte
abbrev pub Lacks : ℕ → List ℕ → Type 0
Lacks byte text = AllByRecursion (λ b. b ≢ byte) text

-- a text is cut at the first such byte: what stands before it, and what behind it
pub record IsCut (text : List ℕ) (byte : ℕ) (front back : List ℕ) : Type 0 where
  pub whole : text ≡ front ++ byte ∷ back
  pub first : Lacks byte front

-- a text is cut at the last such byte: what stands before it, and what behind it
pub record IsLastCut (text : List ℕ) (byte : ℕ) (front back : List ℕ) : Type 0 where
  pub whole : text ≡ front ++ byte ∷ back
  pub last : Lacks byte back
