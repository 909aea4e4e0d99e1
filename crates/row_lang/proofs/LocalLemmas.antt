-- A system of the language depends on no component but those that its lists name.
use Rattle.std.proofs.Common.{◌≡◌, ℕ, zero, suc, ◌+◌, ◌==◌, Bool, true, false, ◌&&◌, ◌||◌, not, List, [], ◌∷◌, ◌++◌, map, filter, get_or, slice_get, unwrap_or, refl, ap, ap₂, ◌∙◌, sym, arith, if◌then◌else◌}
use Rattle.std.proofs.Math.Path.{fun_ext}
use Rattle.std.proofs.lemmas.Bool.{false≢true, eq-eqb}
use Rattle.std.specs.List.{list_any, list_all, flat_map}
use Rattle.entity_id.specs.declared.entity.Entity.{Entity}
use Rattle.entity_id.specs.declared.entity.Profile.{Profile}
use Rattle.entity_id.specs.FiniteMap as entries
use Rattle.entity_id.specs.Identifiers.{is_same}
use Rattle.entity_id.specs.Matching.{is_in, is_match, matches}
use Rattle.world_model.specs.declared.access.Access.{Access}
use Rattle.world_model.specs.declared.component.Row.{Row}
use Rattle.world_model.specs.Components.{zero_row}
use Rattle.world_model.specs.Groups.{has_pool}
use Rattle.world_model.specs.Ticks.{Maps}
use Rattle.row_lang.specs.Bodies.{Done, body_done}
use Rattle.row_lang.specs.Effects.{own_rows, done_for, rewritten, system_effect}
use Rattle.world_model.specs.Frames.{DependsOnItsLists, AreSameIn, own_pools, system_pools, is_member, members, map_at}
use Rattle.row_lang.specs.Systems.{System}
use Rattle.row_lang.specs.Values.{own_row}
use Rattle.row_lang.proofs.FrameLemmas.{slice_get-changed_from}

-- ---- lists of components

or_right : (b c : Bool) → c ≡ true → (b || c) ≡ true
or_right true c is = refl
or_right false c is = is

or_left : (b c : Bool) → b ≡ true → (b || c) ≡ true
or_left b c is = rw is refl

same_number : (n : ℕ) → (n == n) ≡ true
same_number n = eq-eqb n n refl

named_first : (pools : List ℕ) (pool : ℕ) → has_pool (pool ∷ pools) pool ≡ true
named_first pools pool = or_left (pool == pool) (has_pool pools pool) (same_number pool)

pub named_before : (pools more : List ℕ) (pool : ℕ) → has_pool pools pool ≡ true → has_pool (pools ++ more) pool ≡ true
named_before [] more pool is = absurd (false≢true is)
named_before (p ∷ pools) more pool is = either (p == pool) is (named_before pools more pool)
  where
    either : (b : Bool) → (b || has_pool pools pool) ≡ true → (has_pool pools pool ≡ true → has_pool (pools ++ more) pool ≡ true) → (b || has_pool (pools ++ more) pool) ≡ true
    either true is behind = refl
    either false is behind = behind is

pub named_behind : (pools more : List ℕ) (pool : ℕ) → has_pool more pool ≡ true → has_pool (pools ++ more) pool ≡ true
named_behind [] more pool is = is
named_behind (p ∷ pools) more pool is = or_right (p == pool) (has_pool (pools ++ more) pool) (named_behind pools more pool is)

-- two functions give the same for these components
abbrev Agree : {X : Type 0} → (ℕ → X) → (ℕ → X) → List ℕ → Type 0
Agree f g pools = (pool : ℕ) → has_pool pools pool ≡ true → f pool ≡ g pool

module _ {X : Type 0} (f g : ℕ → X) where
  agree_first : (pool : ℕ) (pools : List ℕ) → Agree f g (pool ∷ pools) → f pool ≡ g pool
  agree_first pool pools agree = agree pool (named_first pools pool)

  agree_rest : (pool : ℕ) (pools : List ℕ) → Agree f g (pool ∷ pools) → Agree f g pools
  agree_rest pool pools agree p is = agree p (or_right (pool == p) (has_pool pools p) is)

  map_same : (pools : List ℕ) → Agree f g pools → map f pools ≡ map g pools
  map_same [] agree = refl
  map_same (pool ∷ pools) agree = let here = agree_first pool pools agree in let behind = map_same pools (agree_rest pool pools agree) in cc

list_all_same : (f g : ℕ → Bool) (pools : List ℕ) → Agree f g pools → list_all f pools ≡ list_all g pools
list_all_same f g [] agree = refl
list_all_same f g (pool ∷ pools) agree = let here = agree_first f g pool pools agree in let behind = list_all_same f g pools (agree_rest f g pool pools agree) in cc

list_any_same : (f g : ℕ → Bool) (pools : List ℕ) → Agree f g pools → list_any f pools ≡ list_any g pools
list_any_same f g [] agree = refl
list_any_same f g (pool ∷ pools) agree = let here = agree_first f g pool pools agree in let behind = list_any_same f g pools (agree_rest f g pool pools agree) in cc

-- ---- maps

get_or-slice_get : {X : Type 0} (xs : List X) (k : ℕ) (d : X) → get_or xs k d ≡ unwrap_or (slice_get xs k) d
get_or-slice_get [] k d = refl
get_or-slice_get (x ∷ xs) zero d = refl
get_or-slice_get (x ∷ xs) (suc k) d = get_or-slice_get xs k d

keys_at : (maps : Maps) (pool : ℕ) → get_or (map entries.keys maps) pool [] ≡ entries.keys (map_at maps pool)
keys_at [] pool = refl
keys_at (rows ∷ maps) zero = refl
keys_at (rows ∷ maps) (suc pool) = keys_at maps pool

abbrev own_row_in : Maps → Entity → ℕ → ℕ × Row
own_row_in maps entity pool = (pool, unwrap_or (entries.get (map_at maps pool) entity) zero_row)

abbrev looked_at_in : Maps → ℕ → ℕ × List (Entity × Row)
looked_at_in maps pool = (pool, map_at maps pool)

-- rows rewritten, told by what is done for each entity and by which of them are a system's
abbrev rewrites : ℕ → (Entity → Done) → (Entity → Bool) → List (Entity × Row) → List (Entity × Row)
rewrites pool done test rows = map (λ entry. (entry.0, if test entry.0 then own_row (done entry.0).rows pool else entry.1)) rows

module _ (access : Access) (a b : Maps) (same : AreSameIn (system_pools access) a b) where
  map_at_same : (pool : ℕ) → has_pool (system_pools access) pool ≡ true → map_at a pool ≡ map_at b pool
  map_at_same pool is = get_or-slice_get a pool [] ∙ ap (λ o. unwrap_or o []) (same pool is) ∙ sym (get_or-slice_get b pool [])

  own_named : (pool : ℕ) → has_pool (own_pools access) pool ≡ true → has_pool (system_pools access) pool ≡ true
  own_named pool is = named_before (own_pools access ++ access.look) access.without pool (named_before (own_pools access) access.look pool is)

  look_named : (pool : ℕ) → has_pool access.look pool ≡ true → has_pool (system_pools access) pool ≡ true
  look_named pool is = named_before (own_pools access ++ access.look) access.without pool (named_behind (own_pools access) access.look pool is)

  without_named : (pool : ℕ) → has_pool access.without pool ≡ true → has_pool (system_pools access) pool ≡ true
  without_named pool is = named_behind (own_pools access ++ access.look) access.without pool is

  is_in_same : (entity : Entity) (pool : ℕ) → has_pool (system_pools access) pool ≡ true → is_in (map entries.keys a) entity pool ≡ is_in (map entries.keys b) entity pool
  is_in_same entity pool is = ap (list_any (is_same entity)) (keys_at a pool ∙ ap entries.keys (map_at_same pool is) ∙ sym (keys_at b pool))

  match_same : (entity : Entity) (pools : List ℕ) → ((pool : ℕ) → has_pool pools pool ≡ true → has_pool (system_pools access) pool ≡ true) →
      is_match (map entries.keys a) pools access.without entity ≡ is_match (map entries.keys b) pools access.without entity
  match_same entity pools named =
      let all = list_all_same (is_in (map entries.keys a) entity) (is_in (map entries.keys b) entity) pools (λ pool is. is_in_same entity pool (named pool is)) in
      let none = list_any_same (is_in (map entries.keys a) entity) (is_in (map entries.keys b) entity) access.without (λ pool is. is_in_same entity pool (without_named pool is)) in
      ap₂ (λ held out. held && not out) all none

  is_member_same : is_member access a ≡ is_member access b
  is_member_same = fun_ext (λ entity. match_same entity (own_pools access) own_named)

  members_same : members access a ≡ members access b
  members_same = first (own_pools access) (λ pool is. own_named pool is)
    where
      first : (pools : List ℕ) → ((pool : ℕ) → has_pool pools pool ≡ true → has_pool (system_pools access) pool ≡ true) →
          matches (map entries.keys a) pools access.without ≡ matches (map entries.keys b) pools access.without
      first [] named = refl
      first (pool ∷ pools) named =
          let keys : get_or (map entries.keys a) pool [] ≡ get_or (map entries.keys b) pool [] =
          keys_at a pool ∙ ap entries.keys (map_at_same pool (named pool (named_first pools pool))) ∙ sym (keys_at b pool) in
          ap₂ filter (fun_ext (λ entity. match_same entity (pool ∷ pools) named)) keys

  own_rows_same : (entity : Entity) → own_rows access a entity ≡ own_rows access b entity
  own_rows_same entity = map_same (own_row_in a entity) (own_row_in b entity) (own_pools access)
      (λ pool is. ap (λ rows. (pool, unwrap_or (entries.get rows entity) zero_row)) (map_at_same pool (own_named pool is)))

  looked_at_same : map (looked_at_in a) access.look ≡ map (looked_at_in b) access.look
  looked_at_same = map_same (looked_at_in a) (looked_at_in b) access.look (λ pool is. ap (λ rows. (pool, rows)) (map_at_same pool (look_named pool is)))

module _ (profile : Profile) (system : System) (tick : ℕ) (a b : Maps) (same : AreSameIn (system_pools system.access) a b) where
  done_for_same : done_for profile system tick a ≡ done_for profile system tick b
  done_for_same = fun_ext (λ entity.
      ap₂ (λ looked rows. body_done (record { profile = profile; tick = tick; entity = entity; looked_at = looked }) rows system.statements)
      (looked_at_same system.access a b same) (own_rows_same system.access a b same entity))

  rewritten_same : (pool : ℕ) → rewritten profile system tick a pool ≡ rewritten profile system tick b pool
  rewritten_same pool = ap₂ (λ done test. rewrites pool done test) done_for_same (is_member_same system.access a b same)

  rows_same : AreSameIn system.access.write (system_effect profile system tick a).maps (system_effect profile system tick b).maps
  rows_same pool is =
      let change : Maps → ℕ → List (Entity × Row) → List (Entity × Row) =
      λ maps pool rows. if has_pool system.access.write pool then rewritten profile system tick maps pool rows else rows in
      let at : 0 + pool ≡ pool = omega arith in
      let before : slice_get a pool ≡ slice_get b pool = same pool (own_named system.access a b same pool (named_behind system.access.read system.access.write pool is)) in
      slice_get-changed_from (change a) 0 a pool ∙ rw (at, is, rewritten_same pool, before) refl ∙ sym (slice_get-changed_from (change b) 0 b pool)

  orders_same : (system_effect profile system tick a).orders ≡ (system_effect profile system tick b).orders
  orders_same = ap₂ (λ (done : Entity → Done) entities. flat_map (λ entity. (done entity).orders) entities) done_for_same (members_same system.access a b same)

-- the effect is told by the components that the lists name
pub depends_on_its_lists : (profile : Profile) (system : System) → DependsOnItsLists system.access (system_effect profile system)
depends_on_its_lists profile system = record {
  rows = λ tick a b same. rows_same profile system tick a b same;
  orders = λ tick a b same. orders_same profile system tick a b same;
}
