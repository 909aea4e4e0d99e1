-- What a sort of a group's rows lists: the group's members.
use Rattle.std.proofs.Common.{◌≡◌, ℕ, Bool, true, false, cond, not, eqb, List, [], ◌∷◌, ◌++◌, get_or, IsPermutation, refl, sym, ap, subst, ◌∙◌}
use Rattle.std.specs.Prelude.{filter}
use Rattle.std.specs.List.{list_any, list_all}
use Rattle.std.proofs.lemmas.Bool.{and_parts, or_left, eq-eqb}
use Rattle.std.proofs.lemmas.List.Sorted.{IsPermutation-map}
use Rattle.entity_id.specs.declared.entity.Entity.{Entity}
use Rattle.entity_id.specs.FiniteMap.{keys, AreAscending, HasEachOnce}
use Rattle.entity_id.specs.Matching.{is_in, is_match, matches}
use Rattle.entity_id.proofs.ListLemmas.{ascending-filter}
use Rattle.entity_id.proofs.MatchLemmas.{distinct_ascending, equal_members, any-filter_is}
use Rattle.world_model.specs.declared.component.Row.{Row}
use Rattle.world_model.specs.declared.group.GroupDecl.{GroupDecl}
use Rattle.world_model.specs.declared.world.World.{World}
use Rattle.world_model.specs.Contents.{pool_at, keys_of}
use Rattle.world_model.specs.Groups.{has_pool, members}
use Rattle.world_model.specs.Outcomes.{member_rows}
use Rattle.world_model.specs.Sorting.{rows_by_field}
use Rattle.world_model.specs.Worlds.{IsLawful}
use Rattle.world_model.proofs.KeyLemmas.{ascending_rows, ascending_keys, keys_at}
use Rattle.world_model.proofs.NestedLemmas.{every, all_has}
use Rattle.world_model.proofs.FieldOrderLemmas.{permutation-sorted}

pub rows_each_once : (limit : ℕ) (w : World) (pool : ℕ) → IsLawful limit w → HasEachOnce (pool_at w pool)
rows_each_once limit w pool h = distinct_ascending _ (pool_at w pool) (ascending_rows limit w pool h)

pub member_rows_each_once : (limit : ℕ) (w : World) (decl : GroupDecl) (pool : ℕ) → IsLawful limit w → HasEachOnce (member_rows w decl pool)
member_rows_each_once limit w decl pool h = distinct_ascending _ (member_rows w decl pool) (ascending-filter _ _ (pool_at w pool) (ascending_rows limit w pool h))

keys-filter : (p : Entity → Bool) (rows : List (Entity × Row)) → keys (filter (λ entry. p entry.0) rows) ≡ filter p (keys rows)
keys-filter p [] = refl
keys-filter p (entry ∷ rows) =
    elim (p entry.0) as (λ b. keys (cond b (entry ∷ filter (λ entry. p entry.0) rows) (filter (λ entry. p entry.0) rows)) ≡ cond b (entry.0 ∷ filter p (keys rows)) (filter p (keys rows))) [
      | true ↦ ap (λ l. entry.0 ∷ l) (keys-filter p rows)
      | false ↦ keys-filter p rows
    ]

-- what matches is in each map that is asked for
in_each : (maps : List (List Entity)) (all none : List ℕ) (pool : ℕ) (e : Entity) → has_pool all pool ≡ true → is_match maps all none e ≡ true → is_in maps e pool ≡ true
in_each maps all none pool e has matching =
    all_has (λ p. is_in maps e p ≡ true) all pool (every (is_in maps e) all (and_parts (list_all (is_in maps e) all) (not (list_any (is_in maps e) none)) matching).0) has

-- of maps that ascend, any that is asked for gives the matches
matches_by : (maps : List (List Entity)) → ((pool : ℕ) → AreAscending (get_or maps pool [])) → (all none : List ℕ) (pool : ℕ) → has_pool all pool ≡ true → matches maps all none ≡ filter (is_match maps all none) (get_or maps pool [])
matches_by maps ascend [] none pool has = absurd cc
matches_by maps ascend (first ∷ rest) none pool has =
    let test = is_match maps (first ∷ rest) none in
    equal_members (filter test (get_or maps first [])) (filter test (get_or maps pool []))
    (ascending-filter _ test (get_or maps first []) (ascend first)) (ascending-filter _ test (get_or maps pool []) (ascend pool))
    (λ e. any-filter_is e test (get_or maps first []) (λ h. in_each maps (first ∷ rest) none first e (or_left (eqb first first) (has_pool rest first) (eq-eqb first first refl)) h) ∙ sym (any-filter_is e test (get_or maps pool []) (in_each maps (first ∷ rest) none pool e has)))

pub keys_of_member_rows : (limit : ℕ) (w : World) (decl : GroupDecl) (pool : ℕ) → IsLawful limit w → has_pool (decl.own ++ decl.get) pool ≡ true → members (keys_of w) decl ≡ keys (member_rows w decl pool)
keys_of_member_rows limit w decl pool h has =
    let test = is_match (keys_of w) (decl.own ++ decl.get) decl.without in
    matches_by (keys_of w) (λ p. ascending_keys limit w p h) (decl.own ++ decl.get) decl.without pool has
    ∙ ap (filter test) (keys_at w pool)
    ∙ sym (keys-filter test (pool_at w pool))

pub sorted_pool : (w : World) (pool field : ℕ) → IsPermutation (get_or (keys_of w) pool []) (keys (rows_by_field field (pool_at w pool)))
sorted_pool w pool field =
    subst (λ l. IsPermutation l (keys (rows_by_field field (pool_at w pool)))) (sym (keys_at w pool)) (IsPermutation-map (λ entry. entry.0) _ _ (permutation-sorted field (pool_at w pool)))

pub sorted_members : (limit : ℕ) (w : World) (decl : GroupDecl) (pool field : ℕ) → IsLawful limit w → has_pool (decl.own ++ decl.get) pool ≡ true → IsPermutation (members (keys_of w) decl) (keys (rows_by_field field (member_rows w decl pool)))
sorted_members limit w decl pool field h has =
    subst (λ l. IsPermutation l (keys (rows_by_field field (member_rows w decl pool)))) (sym (keys_of_member_rows limit w decl pool h has))
    (IsPermutation-map (λ entry. entry.0) _ _ (permutation-sorted field (member_rows w decl pool)))
