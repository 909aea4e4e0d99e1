-- Writes one after another.
use Rattle.std.proofs.Common.{◌≡◌, ℕ, suc, ◌+◌, min, List, [], ◌∷◌, ◌++◌, take, length, sym, ap, subst, ◌∙◌, arith, append_assoc}
use Rattle.std.proofs.lemmas.List.{take-append-le, take_min, append-nil, take_all}
use Rattle.ecs_io.specs.Streams.{Grows, GrowsByFront}

pub front_longer : (old new : List ℕ → Type 0) (a b : List ℕ) → GrowsByFront old new a → GrowsByFront old new (a ++ b)
front_longer old new a b h = (min h.0 (length a), λ held was. subst (λ x. new (held ++ x)) (sym (take-append-le (min h.0 (length a)) a b (omega arith) ∙ take_min h.0 a)) (h.1 held was))

take_past : (a b : List ℕ) (n : ℕ) → take (length a + n) (a ++ b) ≡ a ++ take n b
take_past [] b n = let e : 0 + n ≡ n = omega arith in ap (λ (m : ℕ). take m b) e
take_past (x ∷ a) b n =
    let e : length (x ∷ a) + n ≡ suc (length a + n) = omega arith in
    ap (λ (m : ℕ). take m ((x ∷ a) ++ b)) e ∙ ap (λ (xs : List ℕ). x ∷ xs) (take_past a b n)

pub front_after : (old mid new : List ℕ → Type 0) (a b : List ℕ) → Grows old mid a → GrowsByFront mid new b → GrowsByFront old new (a ++ b)
front_after old mid new a b g h = (length a + h.0, λ held was. subst new (append_assoc held a (take h.0 b) ∙ ap (λ x. held ++ x) (sym (take_past a b h.0))) (h.1 (held ++ a) (g held was)))

pub front_whole : (old new : List ℕ → Type 0) (a b : List ℕ) → b ≡ [] → Grows old new a → GrowsByFront old new (a ++ b)
front_whole old new a b none g = (length (a ++ b), λ held was. subst (λ x. new (held ++ x)) (sym (take_all (length (a ++ b)) (a ++ b) (omega arith) ∙ ap (λ x. a ++ x) none ∙ append-nil a)) (g held was))
