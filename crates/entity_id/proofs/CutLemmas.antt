-- Texts without a byte, and texts cut at it.
use Rattle.std.proofs.Common.{◌≡◌, ℕ, true, List, [], ◌∷◌, ◌++◌, eqb, refl, ap₂, subst}
use Rattle.std.specs.Prelude.{◌==◌, not}
use Rattle.std.specs.List.{list_all}
use Rattle.std.proofs.lemmas.Bool.{and_parts, eq-eqb, not_from_true}
use Rattle.entity_id.specs.Cuts.{Lacks}

-- a text is cut at the first such byte in one way
pub same_cut : (byte : ℕ) (a b x y : List ℕ) → Lacks byte a → Lacks byte b → a ++ byte ∷ x ≡ b ++ byte ∷ y → (a ≡ b) × (x ≡ y)
same_cut byte [] [] x y g h e = (refl, cc)
same_cut byte [] (d ∷ ds) x y g h e = absurd (h.0 cc)
same_cut byte (c ∷ cs) [] x y g h e = absurd (g.0 cc)
same_cut byte (c ∷ cs) (d ∷ ds) x y g h e =
    let head : c ≡ d = cc in
    let tail : cs ++ byte ∷ x ≡ ds ++ byte ∷ y = cc in
    let same = same_cut byte cs ds x y g.1 h.1 tail in
    (ap₂ (λ k ks. k ∷ ks) head same.0, same.1)

pub no_cut : (byte : ℕ) (a x : List ℕ) → Lacks byte (a ++ byte ∷ x) → ⊥
no_cut byte [] x h = h.0 refl
no_cut byte (c ∷ cs) x h = no_cut byte cs x h.1

-- and at the last such byte
pub same_last_cut : (byte : ℕ) (a b x y : List ℕ) → Lacks byte x → Lacks byte y → a ++ byte ∷ x ≡ b ++ byte ∷ y → (a ≡ b) × (x ≡ y)
same_last_cut byte [] [] x y g h e = (refl, cc)
same_last_cut byte [] (d ∷ ds) x y g h e = let tail : x ≡ ds ++ byte ∷ y = cc in absurd (no_cut byte ds y (subst (Lacks byte) tail g))
same_last_cut byte (c ∷ cs) [] x y g h e = let tail : y ≡ cs ++ byte ∷ x = cc in absurd (no_cut byte cs x (subst (Lacks byte) tail h))
same_last_cut byte (c ∷ cs) (d ∷ ds) x y g h e =
    let head : c ≡ d = cc in
    let tail : cs ++ byte ∷ x ≡ ds ++ byte ∷ y = cc in
    let same = same_last_cut byte cs ds x y g h tail in
    (ap₂ (λ k ks. k ∷ ks) head same.0, same.1)

pub lacks_append : (byte : ℕ) (a b : List ℕ) → Lacks byte a → Lacks byte b → Lacks byte (a ++ b)
lacks_append byte [] b g h = h
lacks_append byte (c ∷ cs) b g h = (g.0, lacks_append byte cs b g.1 h)

pub lacks_front : (byte : ℕ) (a b : List ℕ) → Lacks byte (a ++ b) → Lacks byte a
lacks_front byte [] b h = tt
lacks_front byte (c ∷ cs) b h = (h.0, lacks_front byte cs b h.1)

pub lacks_back : (byte : ℕ) (a b : List ℕ) → Lacks byte (a ++ b) → Lacks byte b
lacks_back byte [] b h = h
lacks_back byte (c ∷ cs) b h = lacks_back byte cs b h.1

-- a literal word is free by the test, which computes
pub lacks_by_test : (byte : ℕ) (a : List ℕ) → list_all (λ b. not (b == byte)) a ≡ true → Lacks byte a
lacks_by_test byte [] h = tt
lacks_by_test byte (c ∷ cs) h =
    let parts = and_parts (not (eqb c byte)) (list_all (λ b. not (b == byte)) cs) h in
    let passes = parts.0 in
    (λ e. let no = not_from_true (eqb c byte) (eq-eqb c byte e) in cc, lacks_by_test byte cs parts.1)
