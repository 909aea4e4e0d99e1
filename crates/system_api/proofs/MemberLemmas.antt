-- A system's entities, along any pool of its own.
use Rattle.std.proofs.Common.{◌≡◌, ℕ, zero, suc, ◌==◌, Bool, true, false, cond, ◌&&◌, ◌||◌, List, [], ◌∷◌, ◌++◌, map, filter, refl, sym, ap, ◌∙◌, subst, eqb, if◌then◌else◌}
use Rattle.std.specs.Prelude.{slice_index_or, IsTrue}
use Rattle.std.specs.List.{AllByRecursion, flat_map, list_all, list_any}
use Rattle.std.proofs.lemmas.Bool.{eqb-true}
use Rattle.entity_id.specs.declared.entity.Entity.{Entity}
use Rattle.entity_id.specs.FiniteMap as entries
use Rattle.entity_id.specs.Identifiers.{is_same}
use Rattle.entity_id.specs.Matching.{is_in, is_match, matches}
use Rattle.entity_id.proofs.ListLemmas.{ascending-filter, ascending-map}
use Rattle.entity_id.proofs.MatchLemmas.{ascending-matches, any-matches, any-filter_is, equal_members}
use Rattle.world_model.specs.declared.component.Row.{Row}
use Rattle.world_model.specs.declared.deferred.Deferred.{Deferred}
use Rattle.world_model.specs.Frames.{map_at}
use Rattle.world_model.specs.Groups.{has_pool}
use Rattle.world_model.specs.Ticks.{Maps}
use Rattle.system_api.specs.Emissions.{orders_along}

and-left : (b c : Bool) → (b && c) ≡ true → b ≡ true
and-left true c e = refl
and-left false c e = e

and-right : (b c : Bool) → (b && c) ≡ true → c ≡ true
and-right true c e = e
and-right false c e = absurd (cc)

-- what all pass, one that is named passes
named-step : (b : Bool) (p : ℕ → Bool) (x pool : ℕ) (c : Bool) → eqb x pool ≡ b → p x ≡ true → (c ≡ true → p pool ≡ true) → (b || c) ≡ true → p pool ≡ true
named-step true p x pool c e here rest h = subst (λ (y : ℕ). p y ≡ true) (eqb-true x pool e) here
named-step false p x pool c e here rest h = rest h

named-passes : (p : ℕ → Bool) (all : List ℕ) (pool : ℕ) → list_all p all ≡ true → list_any (λ other. other == pool) all ≡ true → p pool ≡ true
named-passes p [] pool passes named = absurd (cc)
named-passes p (x ∷ xs) pool passes named =
    named-step (eqb x pool) p x pool (list_any (λ other. other == pool) xs) refl (and-left (p x) (list_all p xs) passes) (named-passes p xs pool (and-right (p x) (list_all p xs) passes)) named

-- the identifiers of a pool
keys-at : (maps : Maps) (pool : ℕ) → slice_index_or (map entries.keys maps) pool [] ≡ entries.keys (map_at maps pool)
keys-at [] pool = refl
keys-at (m ∷ ms) zero = refl
keys-at (m ∷ ms) (suc pool) = keys-at ms pool

ascending-at : (maps : Maps) (pool : ℕ) → AllByRecursion entries.IsAscending maps → entries.IsAscending (map_at maps pool)
ascending-at [] pool up = tt
ascending-at (m ∷ ms) zero up = up.0
ascending-at (m ∷ ms) (suc pool) up = ascending-at ms pool up.1

ascending-keys : (maps : Maps) (pool : ℕ) → AllByRecursion entries.IsAscending maps → entries.AreAscending (entries.keys (map_at maps pool))
ascending-keys maps pool up = ascending-map (λ (e : Entity). e.index) (λ (entry : Entity × Row). entry.0) (map_at maps pool) (ascending-at maps pool up)

pub walked : (maps : Maps) (all none : List ℕ) (pool : ℕ) → AllByRecursion entries.IsAscending maps → IsTrue (has_pool all pool) → filter (is_match (map entries.keys maps) all none) (entries.keys (map_at maps pool)) ≡ matches (map entries.keys maps) all none
walked maps [] none pool up has = absurd (cc)
walked maps (first ∷ rest) none pool up has =
    let lists = map entries.keys maps in
    let p = is_match lists (first ∷ rest) none in
    let here = entries.keys (map_at maps pool) in
    equal_members (filter p here) (matches lists (first ∷ rest) none)
    (ascending-filter (λ (e : Entity). e.index) p here (ascending-keys maps pool up))
    (ascending-matches lists first rest none (subst (λ (es : List Entity). entries.AreAscending es) (sym (keys-at maps first)) (ascending-keys maps first up)))
    (λ e. any-filter_is e p here (λ is. subst (λ (es : List Entity). list_any (is_same e) es ≡ true) (keys-at maps pool) (named-passes (is_in lists e) (first ∷ rest) pool (and-left (list_all (is_in lists e) (first ∷ rest)) _ is) has))
    ∙ sym (any-matches lists first rest none e))

-- orders of those that pass a test
kept-orders : (b : Bool) (os : List Deferred) (give : Entity → List Deferred) (e : Entity) (es : List Entity) → os ≡ flat_map give es → (if b then give e else []) ++ os ≡ flat_map give (cond b (e ∷ es) es)
kept-orders true os give e es is = ap (λ rest. give e ++ rest) is
kept-orders false os give e es is = is

pub orders-kept : (p : Entity → Bool) (give : Entity → List Deferred) (rows : List (Entity × Row)) → orders_along (λ (entity : Entity) (row : Row). if p entity then give entity else []) rows ≡ flat_map give (filter p (entries.keys rows))
orders-kept p give [] = refl
orders-kept p give (x ∷ xs) = kept-orders (p x.0) _ give x.0 (filter p (entries.keys xs)) (orders-kept p give xs)
