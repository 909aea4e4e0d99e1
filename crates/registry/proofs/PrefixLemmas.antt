-- Groups whose members are a system's entities.
use Rattle.std.proofs.Common.{◌≡◌, ℕ, zero, suc, ◌+◌, ◌<◌, ◌≤◌, Bool, true, false, not, ◌&&◌, ◌||◌, eqb, List, [], ◌∷◌, ◌++◌, map, get_or, length, Some, refl, sym, ap, ap₂, ◌∙◌, subst, arith}
use Rattle.std.specs.List.{AllByRecursion, list_all, list_any, position_from}
use Rattle.std.specs.List.Sorted.{IsPermutation}
use Rattle.std.proofs.lemmas.Bool.{eqb-true}
use Rattle.std.proofs.lemmas.Option.{slice_get_within, get_or_from_slice_get}
use Rattle.entity_id.specs.declared.entity.Entity.{Entity}
use Rattle.entity_id.specs.FiniteMap as entries
use Rattle.entity_id.specs.Matching.{is_in, matches}
use Rattle.entity_id.proofs.MapLemmas.{ascending-keys}
use Rattle.entity_id.proofs.MatchLemmas.{ascending-matches, any-matches, equal_members}
use Rattle.entity_id.proofs.PackedListLemmas.{position_here}
use Rattle.entity_id.proofs.PackedMapLemmas.{ascending-map_of}
use Rattle.storage.specs.Stored.{Stored}
use Rattle.world_model.specs.declared.access.Access.{Access}
use Rattle.world_model.specs.declared.component.Row.{Row}
use Rattle.world_model.specs.declared.group.GroupDecl.{GroupDecl}
use Rattle.world_model.specs.Frames.{own_pools}
use Rattle.world_model.specs.Groups.{has_pool, includes, packed_at, group_prefix, IsLawfulGroup}
use Rattle.group_engine.specs.Grouped.{packed_of}
use Rattle.registry.specs.Layout.{maps_of}
use Rattle.registry.specs.Lending.{have_same, has_members_of, BeginsWithMembers}

and-left : (b c : Bool) → (b && c) ≡ true → b ≡ true
and-left true c e = refl
and-left false c e = e

and-right : (b c : Bool) → (b && c) ≡ true → c ≡ true
and-right true c e = e
and-right false c e = absurd (cc)

and-both : (b c : Bool) → b ≡ true → c ≡ true → (b && c) ≡ true
and-both true c e f = f
and-both false c e f = e

or-later : (b c : Bool) → c ≡ true → (b || c) ≡ true
or-later true c e = refl
or-later false c e = e

same_bool : (b c : Bool) → (b ≡ true → c ≡ true) → (c ≡ true → b ≡ true) → b ≡ c
same_bool true c to from = sym (to refl)
same_bool false true to from = from refl
same_bool false false to from = refl

-- ---- tests of all pools of a list, and of one of them, where another list has the same pools

passes-step : (b : Bool) (p : ℕ → Bool) (x pool : ℕ) (c : Bool) → eqb x pool ≡ b → p x ≡ true → (c ≡ true → p pool ≡ true) → (b || c) ≡ true → p pool ≡ true
passes-step true p x pool c e here rest named = ap p (sym (eqb-true x pool e)) ∙ here
passes-step false p x pool c e here rest named = rest named

named-passes : (p : ℕ → Bool) (all : List ℕ) (pool : ℕ) → list_all p all ≡ true → has_pool all pool ≡ true → p pool ≡ true
named-passes p [] pool passes named = absurd (cc)
named-passes p (x ∷ xs) pool passes named =
    passes-step (eqb x pool) p x pool (has_pool xs pool) refl (and-left (p x) (list_all p xs) passes) (named-passes p xs pool (and-right (p x) (list_all p xs) passes)) named

all_in : (p : ℕ → Bool) (a b : List ℕ) → includes a b ≡ true → list_all p a ≡ true → list_all p b ≡ true
all_in p a [] inside passes = refl
all_in p a (x ∷ b) inside passes =
    and-both (p x) (list_all p b) (named-passes p a x passes (and-left (has_pool a x) (includes a b) inside)) (all_in p a b (and-right (has_pool a x) (includes a b) inside) passes)

same_all : (p : ℕ → Bool) (a b : List ℕ) → have_same a b ≡ true → list_all p a ≡ list_all p b
same_all p a b same = same_bool (list_all p a) (list_all p b) (all_in p a b (and-left (includes a b) (includes b a) same)) (all_in p b a (and-right (includes a b) (includes b a) same))

any-step : (b : Bool) (p : ℕ → Bool) (x pool : ℕ) (c d : Bool) → eqb x pool ≡ b → p pool ≡ true → (c ≡ true → d ≡ true) → (b || c) ≡ true → (p x || d) ≡ true
any-step true p x pool c d e here rest named = ap (λ b. b || d) (ap p (eqb-true x pool e) ∙ here)
any-step false p x pool c d e here rest named = or-later (p x) d (rest named)

named-any : (p : ℕ → Bool) (list : List ℕ) (pool : ℕ) → p pool ≡ true → has_pool list pool ≡ true → list_any p list ≡ true
named-any p [] pool passes named = named
named-any p (x ∷ xs) pool passes named = any-step (eqb x pool) p x pool (has_pool xs pool) (list_any p xs) refl passes (named-any p xs pool passes) named

one-step : (b c d : Bool) → (b ≡ true → d ≡ true) → (c ≡ true → d ≡ true) → (b || c) ≡ true → d ≡ true
one-step true c d here rest any = here refl
one-step false c d here rest any = rest any

any_in : (p : ℕ → Bool) (a b : List ℕ) → includes a b ≡ true → list_any p b ≡ true → list_any p a ≡ true
any_in p a [] inside any = absurd (cc)
any_in p a (x ∷ b) inside any =
    one-step (p x) (list_any p b) (list_any p a) (λ passes. named-any p a x passes (and-left (has_pool a x) (includes a b) inside)) (any_in p a b (and-right (has_pool a x) (includes a b) inside)) any

same_any : (p : ℕ → Bool) (a b : List ℕ) → have_same a b ≡ true → list_any p a ≡ list_any p b
same_any p a b same = same_bool (list_any p a) (list_any p b) (any_in p b a (and-right (includes a b) (includes b a) same)) (any_in p a b (and-left (includes a b) (includes b a) same))

-- so the same identifiers match
same_matches : (maps : List (List Entity)) (a b none other : List ℕ) → ((pool : ℕ) → entries.AreAscending (get_or maps pool [])) → have_same a b ≡ true → have_same none other ≡ true → matches maps a none ≡ matches maps b other
same_matches maps [] [] none other up same apart = refl
same_matches maps [] (y ∷ b) none other up same apart = absurd (cc)
same_matches maps (x ∷ a) [] none other up same apart = absurd (cc (and-right (includes (x ∷ a) []) (includes [] (x ∷ a)) same))
same_matches maps (x ∷ a) (y ∷ b) none other up same apart =
    equal_members (matches maps (x ∷ a) none) (matches maps (y ∷ b) other) (ascending-matches maps x a none (up x)) (ascending-matches maps y b other (up y))
    (λ e. any-matches maps x a none e ∙ ap₂ (λ all any. all && not any) (same_all (is_in maps e) (x ∷ a) (y ∷ b) same) (same_any (is_in maps e) none other apart) ∙ sym (any-matches maps y b other e))

keys_ascend : (pools : List (Stored Row)) (pool : ℕ) → entries.AreAscending (get_or (map entries.keys (maps_of pools)) pool [])
keys_ascend [] pool = tt
keys_ascend (p ∷ pools) zero = ascending-keys (entries.map_of p.pairs) (ascending-map_of p.pairs)
keys_ascend (p ∷ pools) (suc pool) = keys_ascend pools pool

-- ---- prefixes

first_included : (a own get : List ℕ) → 0 < length own → includes a (own ++ get) ≡ true → has_pool a (get_or own 0 0) ≡ true
first_included a [] get some inside = absurd (omega arith)
first_included a (x ∷ own) get some inside = and-left (has_pool a x) (includes a (own ++ get)) inside

first_of : (P : ℕ → Type 0) (own : List ℕ) → 0 < length own → AllByRecursion P own → P (get_or own 0 0)
first_of P [] some h = absurd (omega arith)
first_of P (pool ∷ own) some h = h.0

have_same-sym : (a b : List ℕ) → have_same a b ≡ true → have_same b a ≡ true
have_same-sym a b same = and-both (includes b a) (includes a b) (and-right (includes a b) (includes b a) same) (and-left (includes a b) (includes b a) same)

-- the first pool of a lawful group begins with a system's entities, where their lists say so
pub begins : (access : Access) (decl : GroupDecl) (pools : List (Stored Row)) (count : ℕ) → has_members_of access decl ≡ true → 0 < length decl.own
    → IsLawfulGroup (map entries.keys (maps_of pools)) (packed_of pools) decl count → BeginsWithMembers access pools (get_or decl.own 0 0) count
begins access decl pools count is some lawful =
    let own : have_same (own_pools access) (decl.own ++ decl.get) ≡ true = and-left _ (have_same access.without decl.without) is in
    let out : have_same access.without decl.without ≡ true = and-right (have_same (own_pools access) (decl.own ++ decl.get)) _ is in
    let maps = map entries.keys (maps_of pools) in
    record {
      own = first_included (own_pools access) decl.own decl.get some (and-left (includes (own_pools access) (decl.own ++ decl.get)) (includes (decl.own ++ decl.get) (own_pools access)) own);
      within = first_of (λ pool. count ≤ length (packed_at (packed_of pools) pool)) decl.own some lawful.within;
      first = subst (IsPermutation (group_prefix (packed_of pools) decl count))
          (same_matches maps (decl.own ++ decl.get) (own_pools access) decl.without access.without (keys_ascend pools) (have_same-sym (own_pools access) (decl.own ++ decl.get) own) (have_same-sym access.without decl.without out))
          lawful.matching;
    }

-- ---- the least group that passes a test

pub found_within : {X : Type 0} (test : X → Bool) (xs : List X) (n : ℕ) → position_from test 0 xs ≡ Some n → n < length xs
found_within test xs n found =
    let here = position_here test xs 0 n found in
    let low = slice_get_within xs here.0 here.1 here.3 in
    let is : n ≡ 0 + here.0 = here.2 in
    omega (arith, low, is)

pub found_passes : {X : Type 0} (test : X → Bool) (xs : List X) (n : ℕ) (d : X) → position_from test 0 xs ≡ Some n → test (get_or xs n d) ≡ true
found_passes test xs n d found =
    let here = position_here test xs 0 n found in
    let is : n ≡ here.0 = (let e : n ≡ 0 + here.0 = here.2 in omega (arith, e)) in
    ap test (ap (λ k. get_or xs k d) is ∙ get_or_from_slice_get xs here.0 here.1 d here.3) ∙ here.4
