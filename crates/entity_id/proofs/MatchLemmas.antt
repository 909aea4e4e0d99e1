-- The identifiers that match: ascending, each once, and exactly those that pass the test.
use Rattle.std.proofs.Common.{◌≡◌, ℕ, zero, suc, Bool, true, false, cond, not, ◌&&◌, ◌||◌, List, [], ◌∷◌, map, Some, None, get_or, sym, refl, ap, ◌∙◌, arith}
use Rattle.std.specs.Prelude.{filter}
use Rattle.std.specs.List.{list_any, list_all}
use Rattle.std.proofs.lemmas.Bool.{and_right}
use Rattle.std.proofs.lemmas.Option.{none-some}
use Rattle.entity_id.specs.declared.entity.Entity.{Entity}
use Rattle.entity_id.specs.Identifiers.{is_same}
use Rattle.entity_id.specs.FiniteMap.{get, keys, IsAscendingBy, AreAscending, AreDistinctBy}
use Rattle.entity_id.specs.Matching.{matches, is_match, is_in}
use Rattle.entity_id.proofs.ListLemmas.{all_at, ascending-filter, ascending-map}
use Rattle.entity_id.proofs.MapLemmas.{same_true, equal_lookups}

-- ---- each once

-- in what ascends by a number, a number stands at one place at most
pub distinct_ascending : {X : Type 0} (n : X → ℕ) (xs : List X) → IsAscendingBy n xs → AreDistinctBy n xs
distinct_ascending n [] h i j x y p q e = absurd (none-some x p)
distinct_ascending n (z ∷ xs) h zero zero x y p q e = refl
distinct_ascending n (z ∷ xs) h zero (suc j) x y p q e =
    let first : n z ≡ n x = let same : z ≡ x = cc in ap n same in
    let above = all_at _ xs j y h.0 q in
    absurd (omega arith)
distinct_ascending n (z ∷ xs) h (suc i) zero x y p q e =
    let first : n z ≡ n y = let same : z ≡ y = cc in ap n same in
    let above = all_at _ xs i x h.0 p in
    absurd (omega arith)
distinct_ascending n (z ∷ xs) h (suc i) (suc j) x y p q e = ap suc (distinct_ascending n xs h.1 i j x y p q e)

-- matches of an ascending map ascend
pub ascending-matches : (maps : List (List Entity)) (first : ℕ) (rest none : List ℕ) → AreAscending (get_or maps first []) → AreAscending (matches maps (first ∷ rest) none)
ascending-matches maps first rest none h = ascending-filter _ _ (get_or maps first []) h

pub distinct-matches : (maps : List (List Entity)) (first : ℕ) (rest none : List ℕ) → AreAscending (get_or maps first []) → AreDistinctBy (λ (entity : Entity). entity.index) (matches maps (first ∷ rest) none)
distinct-matches maps first rest none h = distinct_ascending _ _ (ascending-matches maps first rest none h)

-- ---- those that pass

any_of_cond : (t : Entity → Bool) (b : Bool) (k : Entity) (es : List Entity) → list_any t (cond b (k ∷ es) es) ≡ cond b (t k || list_any t es) (list_any t es)
any_of_cond t true k es = refl
any_of_cond t false k es = refl

one_more : (same passes q a f : Bool) → (same ≡ true → q ≡ passes) → f ≡ (a && q) → cond passes (same || f) f ≡ ((same || a) && q)
one_more true true q a f h e = sym (h refl)
one_more true false q a f h e = e ∙ ap (λ b. a && b) (h refl) ∙ and_right a false refl ∙ sym (h refl)
one_more false true q a f h e = e
one_more false false q a f h e = e

-- an identifier stands in a filtered list where it stands in the list and passes
pub any-filter : (e : Entity) (p : Entity → Bool) (es : List Entity) → list_any (is_same e) (filter p es) ≡ (list_any (is_same e) es && p e)
any-filter e p [] = refl
any-filter e p (k ∷ es) =
    any_of_cond (is_same e) (p k) k (filter p es)
    ∙ one_more (is_same e k) (p k) (p e) (list_any (is_same e) es) _ (λ h. ap p (same_true e k h)) (any-filter e p es)

twice : (a b c : Bool) → (a && ((a && b) && c)) ≡ ((a && b) && c)
twice true b c = refl
twice false b c = refl

-- an identifier is among the matches exactly where it matches
pub any-matches : (maps : List (List Entity)) (first : ℕ) (rest none : List ℕ) (e : Entity) → list_any (is_same e) (matches maps (first ∷ rest) none) ≡ is_match maps (first ∷ rest) none e
any-matches maps first rest none e =
    any-filter e (is_match maps (first ∷ rest) none) (get_or maps first [])
    ∙ twice (is_in maps e first) (list_all (is_in maps e) rest) (not (list_any (is_in maps e) none))

-- ---- equal lists

abbrev with_units : List Entity → List (Entity × Unit {0})
with_units es = map (λ e. (e, tt)) es

get_unit : (e : Entity) (es : List Entity) → get (with_units es) e ≡ cond (list_any (is_same e) es) (Some tt) None
get_unit e [] = refl
get_unit e (k ∷ es) =
    elim (is_same e k) as (λ b. cond b (Some tt) (get (with_units es) e) ≡ cond (b || list_any (is_same e) es) (Some tt) None) [
      | true ↦ refl
      | false ↦ get_unit e es
    ]

keys_of_units : (es : List Entity) → keys (with_units es) ≡ es
keys_of_units [] = refl
keys_of_units (e ∷ es) = ap (λ l. e ∷ l) (keys_of_units es)

-- two ascending lists in which the same identifiers stand are equal
pub equal_members : (es fs : List Entity) → AreAscending es → AreAscending fs → ((e : Entity) → list_any (is_same e) es ≡ list_any (is_same e) fs) → es ≡ fs
equal_members es fs g h same =
    let one = equal_lookups (with_units es) (with_units fs) (ascending-map _ _ es g) (ascending-map _ _ fs h) (λ e. get_unit e es ∙ ap (λ b. cond b (Some tt) None) (same e) ∙ sym (get_unit e fs)) in
    sym (keys_of_units es) ∙ ap keys one ∙ keys_of_units fs

-- where all that pass stand in a list, what the filter keeps is what passes
pub any-filter_is : (e : Entity) (p : Entity → Bool) (es : List Entity) → (p e ≡ true → list_any (is_same e) es ≡ true) → list_any (is_same e) (filter p es) ≡ p e
any-filter_is e p es stands = any-filter e p es ∙ both (list_any (is_same e) es) (p e) stands
  where
    both : (a b : Bool) → (b ≡ true → a ≡ true) → (a && b) ≡ b
    both a true h = ap (λ x. x && true) (h refl)
    both true false h = refl
    both false false h = refl
