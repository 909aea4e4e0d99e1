-- What a view lists.
use Rattle.std.proofs.Common.{◌≡◌, ℕ, Some, ◌<◌, zero, suc, Bool, true, false, cond, not, ◌&&◌, ◌||◌, List, [], ◌∷◌, get_or, length, sym, refl, ap, ◌∙◌, subst, arith}
use Rattle.std.specs.Prelude.{filter, is_some}
use Rattle.std.specs.List.{list_any, list_all}
use Rattle.std.specs.List.Sorted.{IsPermutation, IsSortedByKey}
use Rattle.std.specs.Ordering.{nat_cmp}
use Rattle.std.proofs.lemmas.Bool.{false≢true}
use Rattle.std.proofs.lemmas.List.Sorted.{list_any-IsPermutation, IsPermutation-trans}
use Rattle.entity_id.specs.declared.entity.Entity.{Entity}
use Rattle.entity_id.specs.Identifiers.{is_same}
use Rattle.entity_id.specs.FiniteMap as entries
use Rattle.entity_id.specs.Matching.{is_in, is_match, matches}
use Rattle.entity_id.proofs.ListLemmas.{ascending-filter}
use Rattle.entity_id.proofs.MapLemmas.{ascending-keys}
use Rattle.entity_id.proofs.MatchLemmas.{distinct_ascending, ascending-matches, any-matches, any-filter_is, equal_members}
use Rattle.entity_id.proofs.PackedListLemmas.{distinct-permutation}
use Rattle.world_model.specs.declared.world.World.{World}
use Rattle.world_model.specs.Contents.{pool_at, has_row, keys_of}
use Rattle.world_model.proofs.KeyLemmas.{keys_at}
use Rattle.world_model.proofs.PermutationLemmas.{IsPermutation-filter}
use Rattle.registry.proofs.MapListLemmas.{sorted_ascending}

-- ---- which identifiers a pool has

-- an identifier is among the keys exactly where it has a value
pub any_keys : {X : Type 0} (e : Entity) (list : List (Entity × X)) → list_any (is_same e) (entries.keys list) ≡ entries.contains list e
any_keys e [] = refl
any_keys {X = X} e ((k, x) ∷ list) = elim (is_same e k) as (λ b. (b || list_any (is_same e) (entries.keys list)) ≡ is_some (cond b (Some x) (entries.get list e))) [
  | true ↦ refl
  | false ↦ any_keys e list
]

pub is_in_pool : (w : World) (e : Entity) (pool : ℕ) → is_in (keys_of w) e pool ≡ has_row w pool e
is_in_pool w e pool = ap (list_any (is_same e)) (keys_at w pool) ∙ any_keys e (pool_at w pool)

-- whether an identifier matches, by its rows
pub match_by_rows : (w : World) (all none : List ℕ) (e : Entity) → is_match (keys_of w) all none e ≡ (list_all (λ pool. has_row w pool e) all && not (list_any (λ pool. has_row w pool e) none))
match_by_rows w all none e = ap (λ (f : ℕ → Bool). list_all f all && not (list_any f none)) (λ i pool. is_in_pool w e pool i)

-- ---- what is found

both_true : (a b : Bool) → (a && b) ≡ true → (a ≡ true) × (b ≡ true)
both_true true true h = (refl, refl)
both_true true false h = (refl, h)
both_true false b h = absurd (false≢true h)

-- what passes with all of a list
pub all_pass : (t : ℕ → Bool) (all : List ℕ) (place : ℕ) → place < length all → list_all t all ≡ true → t (get_or all place 0) ≡ true
all_pass t [] place low h = absurd (omega arith)
all_pass t (x ∷ all) zero low h = (both_true (t x) (list_all t all) h).0
all_pass t (x ∷ all) (suc place) low h = all_pass t all place (omega arith) (both_true (t x) (list_all t all) h).1

-- what is found in the packed list of one of the pools and then sorted are the matches
pub found_matches : (w : World) (all none : List ℕ) (place : ℕ) (packed found : List Entity) → place < length all → ((pool : ℕ) → entries.IsAscending (pool_at w pool)) → IsPermutation (entries.keys (pool_at w (get_or all place 0))) packed
    → IsPermutation (filter (is_match (keys_of w) all none) packed) found → IsSortedByKey (λ (e : Entity). e.index) nat_cmp found → found ≡ matches (keys_of w) all none
found_matches w [] none place packed found low ascends permuted moved sorted = absurd (omega arith)
found_matches w (first ∷ rest) none place packed found low ascends permuted moved sorted =
    let test = is_match (keys_of w) (first ∷ rest) none in
    let lead = entries.keys (pool_at w (get_or (first ∷ rest) place 0)) in
    let all_ascend : (pool : ℕ) → entries.AreAscending (entries.keys (pool_at w pool)) = λ pool. ascending-keys (pool_at w pool) (ascends pool) in
    let kept : IsPermutation (filter test lead) found = IsPermutation-trans _ _ _ (IsPermutation-filter test lead packed permuted) moved in
    let ascending : entries.AreAscending (filter test lead) = ascending-filter (λ (e : Entity). e.index) test lead (all_ascend (get_or (first ∷ rest) place 0)) in
    let found_ascends = sorted_ascending (λ (e : Entity). e.index) found sorted (distinct-permutation (λ (e : Entity). e.index) (filter test lead) found kept (distinct_ascending (λ (e : Entity). e.index) (filter test lead) ascending)) in
    equal_members found (matches (keys_of w) (first ∷ rest) none) found_ascends
    (ascending-matches (keys_of w) first rest none (subst entries.AreAscending (sym (keys_at w first)) (all_ascend first)))
    (λ e. sym (list_any-IsPermutation (is_same e) (filter test lead) found kept)
    ∙ any-filter_is e test lead (λ passes. ap (list_any (is_same e)) (sym (keys_at w (get_or (first ∷ rest) place 0))) ∙ all_pass (is_in (keys_of w) e) (first ∷ rest) place low (both_true (list_all (is_in (keys_of w) e) (first ∷ rest)) (not (list_any (is_in (keys_of w) e) none)) passes).0)
    ∙ sym (any-matches (keys_of w) first rest none e))
