-- The packed order of a pool, and its map's.
use Rattle.std.proofs.Common.{◌≡◌, ◌≢◌, ℕ, suc, ◌<◌, false, cond, eqb, ltb, List, [], ◌∷◌, ◌++◌, Some, slice_get, sym, refl, ap, ap₂, ◌∙◌, subst, inl, inr, arith}
use Rattle.std.specs.Prelude.{filter}
use Rattle.std.specs.List.{AllByRecursion}
use Rattle.std.specs.List.Sorted.{IsPermutation}
use Rattle.std.proofs.lemmas.Bool.{cases_lt, lt-ltb, le-ltb, ne_eqb, eqb-false, or_parts}
use Rattle.std.proofs.lemmas.List.Sorted.{IsPermutation-refl, IsPermutation-cons, IsPermutation-middle, IsPermutation-map, IsPermutation-trans}
use Rattle.entity_id.specs.declared.entity.Entity.{Entity}
use Rattle.entity_id.specs.FiniteMap.{IsAscending, HasEachOnce, map_of, keys, has_index}
use Rattle.entity_id.proofs.ListLemmas.{all_weaker}
use Rattle.entity_id.proofs.MapChangeLemmas.{has_index-map_of}
use Rattle.entity_id.proofs.PackedListLemmas.{none_by_place}
use Rattle.entity_id.proofs.PackedMapLemmas.{rest_once, ascending-map_of}
use Rattle.registry.proofs.MapListLemmas.{none_smaller, greater_kept}

-- the entries below an index and those above it are all, where none has it
parts_whole : {X : Type 0} (xs : List (Entity × X)) (e : Entity) → IsAscending xs → has_index xs e.index ≡ false → filter (λ y. ltb y.0.index e.index) xs ++ filter (λ y. ltb e.index y.0.index) xs ≡ xs
parts_whole [] e h none = refl
parts_whole {X = X} (x ∷ xs) e h none =
    let parts = or_parts (eqb x.0.index e.index) (has_index xs e.index) none in
    elim (cases_lt x.0.index e.index) [
      | inl less ↦
          ap₂ (λ a b. cond a (x ∷ filter (λ y. ltb y.0.index e.index) xs) (filter (λ y. ltb y.0.index e.index) xs) ++ cond b (x ∷ filter (λ y. ltb e.index y.0.index) xs) (filter (λ y. ltb e.index y.0.index) xs))
          (lt-ltb x.0.index e.index less) (le-ltb e.index x.0.index (omega arith))
          ∙ ap (λ rest. x ∷ rest) (parts_whole xs e h.1 parts.1)
      | inr more ↦
          let apart : x.0.index ≢ e.index = eqb-false x.0.index e.index parts.0 in
          let above : AllByRecursion (λ (y : Entity × X). e.index < y.0.index) (x ∷ xs) = ((let low : e.index < x.0.index = omega arith in low), all_weaker (λ (y : Entity × X). x.0.index < y.0.index) (λ y. e.index < y.0.index) (λ y far. let l : x.0.index < y.0.index = far in omega arith) xs h.0) in
          ap₂ (λ a b. a ++ b) (none_smaller (x ∷ xs) e above) (greater_kept (x ∷ xs) e above)
    ]

-- a map is its entries in another order
pub map_permutes : {X : Type 0} (pairs : List (Entity × X)) → HasEachOnce pairs → IsPermutation (map_of pairs) pairs
map_permutes [] once = IsPermutation-refl []
map_permutes {X = X} (pair ∷ pairs) once =
    let low = filter (λ (y : Entity × X). ltb y.0.index pair.0.index) (map_of pairs) in
    let high = filter (λ (y : Entity × X). ltb pair.0.index y.0.index) (map_of pairs) in
    let none : has_index (map_of pairs) pair.0.index ≡ false = has_index-map_of pairs pair.0.index ∙ none_by_place (λ (y : Entity × X). eqb y.0.index pair.0.index) pairs (λ k y at. apart_at k y at) in
    let whole : low ++ high ≡ map_of pairs = parts_whole (map_of pairs) pair.0 (ascending-map_of pairs) none in
    IsPermutation-trans _ _ _ (IsPermutation-middle low pair high) (subst (λ rest. IsPermutation (pair ∷ rest) (pair ∷ pairs)) (sym whole) (IsPermutation-cons pair (map_of pairs) pairs (map_permutes pairs (rest_once pair pairs once))))
  where
    apart_at : (k : ℕ) (y : Entity × X) → slice_get pairs k ≡ Some y → eqb y.0.index pair.0.index ≡ false
    apart_at k y at = ne_eqb y.0.index pair.0.index (λ same. let far : suc k ≡ 0 = once (suc k) 0 y pair at refl same in omega arith)

pub keys_permute : {X : Type 0} (pairs : List (Entity × X)) → HasEachOnce pairs → IsPermutation (keys (map_of pairs)) (keys pairs)
keys_permute pairs once = IsPermutation-map (λ (pair : Entity × _). pair.0) (map_of pairs) pairs (map_permutes pairs once)
