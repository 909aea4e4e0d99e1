-- Texts that are printed part by part.
use Rattle.std.proofs.Common.{◌≡◌, ℕ, List, ◌++◌, length, take, drop, sym, ap, ◌∙◌, append_assoc}
use Rattle.std.proofs.lemmas.List.{take-append-drop}
use Rattle.std.proofs.Math.Seq.{take-append_seam}

-- a front of what is kept is kept
pub front_kept : (old x held new : List ℕ) → held ≡ old ++ x → take (length held) new ≡ held → take (length old) new ≡ old
front_kept old x held new is kept =
    ap (take (length old)) (sym (take-append-drop (length held) new) ∙ ap (λ t. t ++ drop (length held) new) (kept ∙ is) ∙ append_assoc old x (drop (length held) new))
    ∙ take-append_seam old (x ++ drop (length held) new)

-- the same of a front of it
pub front_on : (old held new : List ℕ) → take (length old) held ≡ old → take (length held) new ≡ held → take (length old) new ≡ old
front_on old held new front kept =
    front_kept old (drop (length old) held) held new (sym (take-append-drop (length old) held) ∙ ap (λ t. t ++ drop (length old) held) front) kept
