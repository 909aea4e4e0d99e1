-- A system of checked statements leaves fitting rows and gives fitting orders, in every lawful world of its components.
use Rattle.std.proofs.Common.{◌≡◌, ℕ, zero, suc, ◌+◌, ◌^◌, ◌<◌, ◌≤◌, ◌==◌, Bool, true, false, cond, ◌&&◌, ◌||◌, IsTrue, List, [], ◌∷◌, map, get_or, length, replicate, slice_get, Option, Some, None, unwrap_or, refl, sym, subst, arith, pos, length-take, if◌then◌else◌}
use Rattle.std.specs.Prelude.{nat_lt}
use Rattle.std.specs.List.{AllByRecursion, AllZip, flat_map}
use Rattle.std.specs.Map.{lookup}
use Rattle.std.specs.Option.{option_map_or}
use Rattle.std.proofs.lemmas.Bool.{and_parts, and_from, false≢true, eqb-true, lt-ltb, ltb-true}
use Rattle.entity_id.specs.declared.entity.Entity.{Entity}
use Rattle.entity_id.specs.declared.entity.Profile.{Profile}
use Rattle.entity_id.specs.FiniteMap as entries
use Rattle.entity_id.specs.Identifiers.{HasLimits, is_profile, is_same, is_same_profile, p20_12, p32_32}
use Rattle.entity_id.specs.Matching.{is_match, matches}
use Rattle.entity_id.proofs.ListLemmas.{all_at, all-append, all_weaker, all-filter}
use Rattle.world_model.specs.declared.component.Decl.{Decl}
use Rattle.world_model.specs.declared.component.Kind.{Kind}
use Rattle.world_model.specs.declared.component.Kind.TheVariants.{Int, Ref}
use Rattle.world_model.specs.declared.component.Row.{Row}
use Rattle.world_model.specs.declared.slot.Slot.{Slot}
use Rattle.world_model.specs.declared.world.World.{World}
use Rattle.world_model.specs.Components.{IsDecl, IsRow, fits, is_below, kinds_of, zero_row}
use Rattle.world_model.specs.Groups.{has_pool}
use Rattle.world_model.specs.Orders.{IsFitting}
use Rattle.world_model.specs.Slots.{AreLawfulSlots, is_live}
use Rattle.world_model.specs.Ticks.{Maps}
use Rattle.world_model.specs.Worlds.{AreLawfulRows}
use Rattle.row_lang.specs.Bodies.{padded_row}
use Rattle.row_lang.specs.Effects.{AreStatements, IsChecked, changed_from, done_for, rewritten, setting_of, system_effect}
use Rattle.world_model.specs.Frames.{AreFittingMaps, IsFitSystem, IsWorldOf, is_member, map_at, members, own_pools}
use Rattle.row_lang.specs.Naming.{names_of}
use Rattle.row_lang.specs.Systems.{System}
use Rattle.row_lang.specs.Values.{known_for, own_row}
use Rattle.row_lang.proofs.KindLemmas.{Holds, Stands, either_is}
use Rattle.row_lang.proofs.RowLemmas.{padded_stands, within}
use Rattle.row_lang.proofs.StatementLemmas.{IsDone, body_is_done}

-- ---- profiles and identifiers

same_limits : (a b : Profile) → is_same_profile a b ≡ true → HasLimits b → HasLimits a
same_limits a b same limits =
    let parts = and_parts (a.index_limit == b.index_limit) (a.version_limit == b.version_limit) same in
    record {
      index = subst (λ n. n < 2 ^ 32) (sym (eqb-true a.index_limit b.index_limit parts.0)) limits.index;
      version = subst (λ n. n < 2 ^ 32) (sym (eqb-true a.version_limit b.version_limit parts.1)) limits.version;
    }

limits_of : (profile : Profile) → is_profile profile ≡ true → HasLimits profile
limits_of profile is = either (is_same_profile profile p20_12) refl is
  where
    either : (b : Bool) → is_same_profile profile p20_12 ≡ b → (b || is_same_profile profile p32_32) ≡ true → HasLimits profile
    either true first is = same_limits profile p20_12 first (record { index = omega arith; version = omega arith })
    either false first is = same_limits profile p32_32 is (record { index = omega arith; version = omega arith })

live_below : (profile : Profile) (limit : ℕ) (slots : List Slot) (free : List ℕ) (e : Entity) → AreLawfulSlots profile limit slots free → is_live slots e ≡ true → is_below profile e ≡ true
live_below profile limit slots free e lawful live = split (slice_get slots e.index) refl live
  where
    split : (o : Option Slot) → slice_get slots e.index ≡ o → option_map_or (λ slot. slot.live && (slot.version == e.version)) o false ≡ true → is_below profile e ≡ true
    split None at is = absurd (false≢true is)
    split (Some slot) at is =
        let version : slot.version ≡ e.version = eqb-true slot.version e.version (and_parts slot.live (slot.version == e.version) is).1 in
        let small : slot.version < profile.version_limit = all_at (λ slot. slot.version < profile.version_limit) slots e.index slot lawful.versions at in
        and_from _ _ (lt-ltb e.index profile.index_limit (omega (arith, within slots e.index slot at, lawful.few, lawful.addressable)))
        (lt-ltb e.version profile.version_limit (omega (arith, version, small)))

-- ---- rows of 0

zeros_held : (profile : Profile) → Holds profile Ref (pos 0) → (kinds : List Kind) → AllZip (Holds profile) kinds (replicate (length kinds) (pos 0))
zeros_held profile zero_held [] = tt
zeros_held profile zero_held (Int ∷ kinds) = ((zero_held.0, refl), zeros_held profile zero_held kinds)
zeros_held profile zero_held (Ref ∷ kinds) = (zero_held, zeros_held profile zero_held kinds)

padded_zeros : (n : ℕ) → n ≤ 4 → padded_row (replicate n (pos 0)) ≡ zero_row
padded_zeros zero few = refl
padded_zeros (suc zero) few = refl
padded_zeros (suc (suc zero)) few = refl
padded_zeros (suc (suc (suc zero))) few = refl
padded_zeros (suc (suc (suc (suc zero)))) few = refl
padded_zeros (suc (suc (suc (suc (suc n))))) few = absurd (omega (arith, few))

zero_held : (profile : Profile) (e : Entity) → is_below profile e ≡ true → Holds profile Ref (pos 0)
zero_held profile e below =
    let parts = and_parts (nat_lt e.index profile.index_limit) (nat_lt e.version profile.version_limit) below in (
      omega arith,
      and_from _ _ (lt-ltb 0 profile.index_limit (omega (arith, ltb-true e.index profile.index_limit parts.0)))
          (lt-ltb 0 profile.version_limit (omega (arith, ltb-true e.version profile.version_limit parts.1))),
    )

zero_stands : (profile : Profile) (e : Entity) (decl : Decl) → is_below profile e ≡ true → IsDecl decl → Stands profile decl zero_row
zero_stands profile e decl below is =
    let few : length (kinds_of decl) ≤ 4 = omega (arith, length-take decl.count decl.kinds, is.few) in
    subst (Stands profile decl) (padded_zeros (length (kinds_of decl)) few) (padded_stands profile decl (replicate (length (kinds_of decl)) (pos 0)) is (zeros_held profile (zero_held profile e below) (kinds_of decl)))

-- ---- maps

-- the rows of a component that fit it, with identifiers below the limits
pub record AreRows (profile : Profile) (decl : Decl) (rows : List (Entity × Row)) : Type 0 where
  pub stand : AllByRecursion (λ entry. Stands profile decl entry.1) rows
  pub below : AllByRecursion (λ entry. is_below profile entry.0 ≡ true) rows

all_both : {X : Type 0} (P Q R : X → Type 0) → ((x : X) → P x → Q x → R x) → (xs : List X) → AllByRecursion P xs → AllByRecursion Q xs → AllByRecursion R xs
all_both P Q R f [] p q = tt
all_both P Q R f (x ∷ xs) p q = (f x p.0 q.0, all_both P Q R f xs p.1 q.1)

lawful_rows : (profile : Profile) (limit : ℕ) (slots : List Slot) (free : List ℕ) (decl : Decl) (rows : List (Entity × Row)) → AreLawfulSlots profile limit slots free → AreLawfulRows profile slots decl rows → AreRows profile decl rows
lawful_rows profile limit slots free decl rows lawful are = record {
  stand = all_both (λ entry. IsRow entry.1) (λ entry. IsTrue (fits profile decl entry.1)) (λ entry. Stands profile decl entry.1) (λ entry wide fit. (wide, fit)) rows are.wide are.fitting;
  below = all_weaker (λ entry. IsTrue (is_live slots entry.0)) (λ entry. is_below profile entry.0 ≡ true) (λ entry live. live_below profile limit slots free entry.0 lawful live) rows are.live;
}

all_zip_weaker : {A B : Type 0} (R S : A → B → Type 0) → ((a : A) (b : B) → R a b → S a b) → (xs : List A) (ys : List B) → AllZip R xs ys → AllZip S xs ys
all_zip_weaker R S f [] [] all = tt
all_zip_weaker R S f [] (y ∷ ys) all = absurd all
all_zip_weaker R S f (x ∷ xs) [] all = absurd all
all_zip_weaker R S f (x ∷ xs) (y ∷ ys) all = (f x y all.0, all_zip_weaker R S f xs ys all.1)

rows_at : (profile : Profile) (decls : List Decl) (maps : Maps) (pool : ℕ) (decl : Decl) → AllZip (AreRows profile) decls maps → slice_get decls pool ≡ Some decl → AreRows profile decl (map_at maps pool)
rows_at profile [] maps pool decl all found = absurd (cc)
rows_at profile (d ∷ decls) [] pool decl all found = absurd all
rows_at profile (d ∷ decls) (rows ∷ maps) zero decl all found = subst (λ d. AreRows profile d rows) (some_same d decl found) all.0
  where
    some_same : (a b : Decl) → Some a ≡ Some b → a ≡ b
    some_same a b e = cc
rows_at profile (d ∷ decls) (rows ∷ maps) (suc pool) decl all found = rows_at profile decls maps pool decl all.1 found

-- identifiers of any component are below the limits
below_at : (profile : Profile) (decls : List Decl) (maps : Maps) (pool : ℕ) → AllZip (AreRows profile) decls maps → AllByRecursion (λ e. is_below profile e ≡ true) (get_or (map entries.keys maps) pool [])
below_at profile [] [] pool all = tt
below_at profile [] (rows ∷ maps) pool all = absurd all
below_at profile (d ∷ decls) [] pool all = tt
below_at profile (d ∷ decls) (rows ∷ maps) zero all = keys rows all.0.below
  where
    keys : (rows : List (Entity × Row)) → AllByRecursion (λ entry. is_below profile entry.0 ≡ true) rows → AllByRecursion (λ e. is_below profile e ≡ true) (entries.keys rows)
    keys [] below = tt
    keys (entry ∷ rows) below = (below.0, keys rows below.1)
below_at profile (d ∷ decls) (rows ∷ maps) (suc pool) all = below_at profile decls maps pool all.1

-- what is known for a component is one of the things that are known for components, or the other thing
known_kept : {X : Type 0} (P : X → Type 0) (f : ℕ → X) (otherwise : X) (pool : ℕ) (pools : List ℕ) → P (f pool) → P otherwise → P (known_for pool (map (λ p. (p, f p)) pools) otherwise)
known_kept P f otherwise pool [] here there = there
known_kept {X} P f otherwise pool (p ∷ pools) here there =
    elim (p == pool) as (λ b. (p == pool) ≡ b → P (unwrap_or (cond b (Some (f p)) (lookup (λ other. other == pool) (map (λ p. (p, f p)) pools))) otherwise)) [
      | true ↦ λ same. subst (λ q. P (f q)) (sym (eqb-true p pool same)) here
      | false ↦ λ _. known_kept P f otherwise pool pools here there
    ] refl

row_kept : (P : Row → Type 0) (rows : List (Entity × Row)) (e : Entity) (otherwise : Row) → AllByRecursion (λ entry. P entry.1) rows → P otherwise → P (unwrap_or (entries.get rows e) otherwise)
row_kept P [] e otherwise all there = there
row_kept P (entry ∷ rows) e otherwise all there =
    elim (is_same e entry.0) as (λ b. P (unwrap_or (cond b (Some entry.1) (lookup (is_same e) rows)) otherwise)) [
      | true ↦ all.0
      | false ↦ row_kept P rows e otherwise all.1 there
    ]

-- ---- one entity

module _ (profile : Profile) (names : List (List ℕ)) (decls : List Decl) (system : System) (tick : ℕ) (maps : Maps)
    (decls_are : AllByRecursion IsDecl decls) (limits : HasLimits profile) (small : tick < 2 ^ 63) (are_rows : AllZip (AreRows profile) decls maps)
    (are : AreStatements names decls system.access system.statements) where
  entity_done : (e : Entity) → is_below profile e ≡ true → IsDone names decls system.access (setting_of profile system.access tick maps e) (done_for profile system tick maps e)
  entity_done e below = body_is_done names decls system.access (setting_of profile system.access tick maps e)
      (record {
        decls_are = decls_are;
        limits = limits;
        tick = small;
        below = below;
        looked = λ pool decl found. known_kept (AllByRecursion (λ entry. Stands profile decl entry.1)) (λ p. map_at maps p) [] pool system.access.look (rows_at profile decls maps pool decl are_rows found).stand tt;
      }) system.statements are _
      (record {
        own = λ pool decl found.
            let zeros = zero_stands profile e decl below (all_at IsDecl decls pool decl decls_are found) in
            known_kept (Stands profile decl) (λ p. unwrap_or (entries.get (map_at maps p) e) zero_row) zero_row pool (own_pools system.access)
            (row_kept (Stands profile decl) (map_at maps pool) e zero_row (rows_at profile decls maps pool decl are_rows found).stand zeros) zeros;
        orders = tt;
      })

  -- ---- all entities

  rows_fit : (pool : ℕ) (decl : Decl) (rows : List (Entity × Row)) → slice_get decls pool ≡ Some decl → AreRows profile decl rows →
      AllByRecursion (λ entry. IsRow entry.1 × IsTrue (fits profile decl entry.1)) (rewritten profile system tick maps pool rows)
  rows_fit pool decl rows found are = each rows are.stand are.below
    where
      each : (rows : List (Entity × Row)) → AllByRecursion (λ entry. Stands profile decl entry.1) rows → AllByRecursion (λ entry. is_below profile entry.0 ≡ true) rows →
          AllByRecursion (λ entry. IsRow entry.1 × IsTrue (fits profile decl entry.1)) (rewritten profile system tick maps pool rows)
      each [] stand below = tt
      each (entry ∷ rows) stand below = (
        either_is (Stands profile decl) (is_member system.access maps entry.0) (own_row (done_for profile system tick maps entry.0).rows pool) entry.1
            ((entity_done entry.0 below.0).own pool decl found) stand.0,
        each rows stand.1 below.1,
      )

  abbrev change : ℕ → List (Entity × Row) → List (Entity × Row)
  change pool rows = if has_pool system.access.write pool then rewritten profile system tick maps pool rows else rows

  changed_fit : (n : ℕ) (ds : List Decl) (ms : Maps) → ((k : ℕ) (decl : Decl) → slice_get ds k ≡ Some decl → slice_get decls (n + k) ≡ Some decl) → AllZip (AreRows profile) ds ms → AreFittingMaps profile ds (changed_from n change ms)
  changed_fit n [] [] found are = tt
  changed_fit n [] (rows ∷ ms) found are = absurd are
  changed_fit n (d ∷ ds) [] found are = absurd are
  changed_fit n (d ∷ ds) (rows ∷ ms) found are =
      let at : n + 0 ≡ n = omega arith in (
        either_is (AllByRecursion (λ entry. IsRow entry.1 × IsTrue (fits profile d entry.1))) (has_pool system.access.write n) (rewritten profile system tick maps n rows) rows
            (rows_fit n d rows (subst (λ m. slice_get decls m ≡ Some d) at (found 0 d refl)) are.0) are.0.stand,
        changed_fit (n + 1) ds ms (λ k decl is. let next : n + suc k ≡ n + 1 + k = omega arith in subst (λ m. slice_get decls m ≡ Some decl) next (found (suc k) decl is)) are.1,
      )

  maps_fit : AreFittingMaps profile decls (system_effect profile system tick maps).maps
  maps_fit = changed_fit 0 decls maps (λ k decl is. let at : 0 + k ≡ k = omega arith in rw at is) are_rows

  members_below : AllByRecursion (λ e. is_below profile e ≡ true) (members system.access maps)
  members_below = first (own_pools system.access)
    where
      first : (pools : List ℕ) → AllByRecursion (λ e. is_below profile e ≡ true) (matches (map entries.keys maps) pools system.access.without)
      first [] = tt
      first (pool ∷ pools) = all-filter (λ e. is_below profile e ≡ true) (is_match (map entries.keys maps) (pool ∷ pools) system.access.without) (get_or (map entries.keys maps) pool []) (below_at profile decls maps pool are_rows)

  orders_fit : AllByRecursion (IsFitting profile decls) (system_effect profile system tick maps).orders
  orders_fit = each (members system.access maps) members_below
    where
      each : (es : List Entity) → AllByRecursion (λ e. is_below profile e ≡ true) es → AllByRecursion (IsFitting profile decls) (flat_map (λ e. (done_for profile system tick maps e).orders) es)
      each [] below = tt
      each (e ∷ es) below = all-append (IsFitting profile decls) (done_for profile system tick maps e).orders (flat_map (λ e. (done_for profile system tick maps e).orders) es) (entity_done e below.0).orders (each es below.1)

-- ---- a system

module _ (profile : Profile) (decls : List Decl) (world : World) (is : IsWorldOf profile decls world) where
  world_rows : AllZip (AreRows profile) decls world.pools
  world_rows = subst (λ p. AllZip (AreRows p) decls world.pools) is.profile_is (subst (λ ds. AllZip (AreRows world.profile) ds world.pools) is.decls_are
      (all_zip_weaker (AreLawfulRows world.profile world.slots) (AreRows world.profile) (λ decl rows are. lawful_rows world.profile is.limit world.slots world.free decl rows is.lawful.slots are) world.decls world.pools is.lawful.pools))

  world_decls : AllByRecursion IsDecl decls
  world_decls = subst (AllByRecursion IsDecl) is.decls_are is.lawful.decls

  world_limits : HasLimits profile
  world_limits = subst HasLimits is.profile_is (limits_of world.profile is.lawful.profile)

-- a system of lawful lists and checked statements is fit
pub is_fit : (profile : Profile) (decls : List Decl) (system : System) → IsChecked decls system → IsFitSystem profile decls system.access (system_effect profile system)
is_fit profile decls system checked = let names = names_of decls in let are = checked.statements in record {
  lists = checked.lists;
  rows = λ world is. maps_fit profile names decls system world.tick world.pools (world_decls profile decls world is) (world_limits profile decls world is) is.tick (world_rows profile decls world is) are;
  orders = λ world is. orders_fit profile names decls system world.tick world.pools (world_decls profile decls world is) (world_limits profile decls world is) is.tick (world_rows profile decls world is) are;
}
