-- Lists that name no pool twice, and two of them in one.
use Rattle.std.proofs.Common.{◌≡◌, ℕ, zero, suc, Bool, true, false, not, ◌&&◌, ◌||◌, eqb, List, [], ◌∷◌, ◌++◌, Some, slice_get, refl, sym, ap, ap₂, ◌∙◌}
use Rattle.std.specs.List.{list_any}
use Rattle.std.proofs.lemmas.Bool.{false≢true, and_parts, or_left, or_right, not-true, eq-eqb}
use Rattle.std.proofs.lemmas.List.Folds.{list_any-append}
use Rattle.std.proofs.lemmas.Option.{none-some, same_Some}
use Rattle.entity_id.specs.FiniteMap.{AreDistinctBy}
use Rattle.world_model.specs.Groups.{has_pool, are_distinct}

-- two lists in one name no pool twice where neither does and they share none
pub distinct-append : (xs ys : List ℕ) → are_distinct (xs ++ ys) ≡ (are_distinct xs && are_distinct ys && not (list_any (has_pool ys) xs))
distinct-append [] ys = alone (are_distinct ys)
  where
    alone : (d : Bool) → d ≡ (true && d && not false)
    alone true = refl
    alone false = refl
distinct-append (x ∷ xs) ys =
    ap₂ (λ a b. not a && b) (list_any-append (λ other. eqb other x) xs ys) (distinct-append xs ys)
    ∙ in_order (has_pool xs x) (has_pool ys x) (are_distinct xs) (are_distinct ys) (list_any (has_pool ys) xs)
  where
    in_order : (a b c d e : Bool) → (not (a || b) && (c && d && not e)) ≡ ((not a && c) && d && not (b || e))
    in_order true b c d e = refl
    in_order false true false d e = refl
    in_order false true true false e = refl
    in_order false true true true e = refl
    in_order false false c d e = refl

-- three lists in one
pub distinct_together : (own get without : List ℕ) → are_distinct (own ++ get ++ without)
    ≡ (are_distinct own && are_distinct get && not (list_any (has_pool get) own) && are_distinct without && not (list_any (has_pool without) own) && not (list_any (has_pool without) get))
distinct_together own get without =
    distinct-append (own ++ get) without
    ∙ ap₂ (λ front shared. front && are_distinct without && not shared) (distinct-append own get) (list_any-append (has_pool without) own get)
    ∙ apart (are_distinct own && are_distinct get && not (list_any (has_pool get) own) && are_distinct without) (list_any (has_pool without) own) (list_any (has_pool without) get)
  where
    apart : (front a b : Bool) → (front && not (a || b)) ≡ (front && not a && not b)
    apart true true b = refl
    apart true false b = refl
    apart false a b = refl

pub front_distinct : (xs ys : List ℕ) → are_distinct (xs ++ ys) ≡ true → are_distinct xs ≡ true
front_distinct xs ys h =
    let three = and_parts (are_distinct xs && are_distinct ys) _ (sym (distinct-append xs ys) ∙ h) in
    (and_parts (are_distinct xs) (are_distinct ys) three.0).0

-- ---- by places

has_at : (pools : List ℕ) (place pool : ℕ) → slice_get pools place ≡ Some pool → has_pool pools pool ≡ true
has_at [] place pool at = absurd (none-some pool at)
has_at (first ∷ pools) zero pool at = or_left (eqb first pool) (has_pool pools pool) (eq-eqb first pool (same_Some first pool at))
has_at (first ∷ pools) (suc place) pool at = or_right (eqb first pool) (has_pool pools pool) (has_at pools place pool at)

-- the first pool stands nowhere else
never_again : (first : ℕ) (pools : List ℕ) (place pool : ℕ) → not (has_pool pools first) ≡ true → slice_get pools place ≡ Some pool → first ≡ pool → ⊥
never_again first pools place pool none at same =
    false≢true (sym (not-true _ none) ∙ has_at pools place first (at ∙ ap Some (sym same)))

pub distinct_places : (pools : List ℕ) → are_distinct pools ≡ true → AreDistinctBy (λ (pool : ℕ). pool) pools
distinct_places [] h i j x y at_i at_j same = absurd (none-some x at_i)
distinct_places (first ∷ pools) h zero zero x y at_i at_j same = refl
distinct_places (first ∷ pools) h zero (suc j) x y at_i at_j same =
    absurd (never_again first pools j y (and_parts (not (has_pool pools first)) (are_distinct pools) h).0 at_j (same_Some first x at_i ∙ same))
distinct_places (first ∷ pools) h (suc i) zero x y at_i at_j same =
    absurd (never_again first pools i x (and_parts (not (has_pool pools first)) (are_distinct pools) h).0 at_i (same_Some first y at_j ∙ sym same))
distinct_places (first ∷ pools) h (suc i) (suc j) x y at_i at_j same =
    ap suc (distinct_places pools (and_parts (not (has_pool pools first)) (are_distinct pools) h).1 i j x y at_i at_j same)
