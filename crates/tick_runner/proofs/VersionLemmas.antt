-- Pools at versions.
use Rattle.std.proofs.Common.{◌≡◌, ℕ, zero, suc, ◌+◌, ◌≤◌, Bool, true, false, cond, List, [], ◌∷◌, ◌++◌, map, length, take, Some, slice_get, refl, sym, ap, ◌∙◌, arith, zero-add, take_all, le_refl}
use Rattle.std.proofs.lemmas.List.Sums.{sum_by-cons, sum_by_push}
use Rattle.std.proofs.lemmas.Option.{same_Some, none-some}
use Rattle.entity_id.specs.FiniteMap as entries
use Rattle.world_model.specs.declared.access.Access.{Access}
use Rattle.world_model.specs.Frames.{ChangesOnlyItsRows, DependsOnItsLists, system_pools, AreSameIn}
use Rattle.world_model.specs.Groups.{has_pool}
use Rattle.world_model.specs.Ticks.{Maps, System, maps_after_systems, orders_of}
use Rattle.access_graph.specs.Conflicts.{writers, need}
use Rattle.tick_runner.specs.Versions.{at, maps_before}

abbrev pub one_if : Bool → ℕ
one_if b = cond b 1 0

suc-plus : (n : ℕ) → 1 + n ≡ suc n
suc-plus n = omega arith

writers-cons : (a : Access) (accesses : List Access) (pool : ℕ) → writers (a ∷ accesses) pool ≡ one_if (has_pool a.write pool) + writers accesses pool
writers-cons a accesses pool = sum_by-cons (λ (access : Access). cond (has_pool access.write pool) 1 0) a accesses

pub take_next : {A : Type 0} (xs : List A) (place : ℕ) (x : A) → slice_get xs place ≡ Some x → take (suc place) xs ≡ take place xs ++ x ∷ []
take_next [] place x is = absurd (none-some x is)
take_next (y ∷ xs) zero x is = ap (λ z. z ∷ []) (same_Some y x is)
take_next (y ∷ xs) (suc place) x is = ap (λ ys. y ∷ ys) (take_next xs place x is)

-- what is needed after one system more
pub need_more : (accesses : List Access) (place pool : ℕ) (a : Access) → slice_get accesses place ≡ Some a → need accesses (suc place) pool ≡ need accesses place pool + one_if (has_pool a.write pool)
need_more accesses place pool a is =
    ap (λ (xs : List Access). writers xs pool) (take_next accesses place a is) ∙ sum_by_push (λ (access : Access). cond (has_pool access.write pool) 1 0) (take place accesses) a

module _ {S : Type 0} (lists : S → Access) (effect : S → System) (frame : (s : S) → ChangesOnlyItsRows (lists s) (effect s)) (tick : ℕ) (pool : ℕ) where
  pub at-none : (systems : List S) (maps : Maps) → at lists effect systems tick maps pool zero ≡ slice_get maps pool
  at-none [] maps = refl
  at-none (s ∷ systems) maps = refl

  -- a system that doesn't write the pool leaves it, and raises no version
  passed : (s : S) (systems : List S) (maps : Maps) (version : ℕ) → has_pool (lists s).write pool ≡ false
      → at lists effect (s ∷ systems) tick maps pool version ≡ at lists effect systems tick (effect s tick maps).maps pool version
  passed s systems maps zero absent = sym ((frame s).unwritten tick maps pool absent) ∙ sym (at-none systems (effect s tick maps).maps)
  passed s systems maps (suc version) absent = ap (λ b. at lists effect systems tick (effect s tick maps).maps pool (cond b version (suc version))) absent

  written : (s : S) (systems : List S) (maps : Maps) (version : ℕ) → has_pool (lists s).write pool ≡ true
      → at lists effect (s ∷ systems) tick maps pool (suc version) ≡ at lists effect systems tick (effect s tick maps).maps pool version
  written s systems maps version named = ap (λ b. at lists effect systems tick (effect s tick maps).maps pool (cond b version (suc version))) named

  -- at what a system needs, a pool has the rows that the systems before it leave
  pub at_need : (systems : List S) (place : ℕ) (maps : Maps) → at lists effect systems tick maps pool (need (map lists systems) place pool) ≡ slice_get (maps_before effect systems tick maps place) pool
  at_need [] zero maps = refl
  at_need [] (suc place) maps = refl
  at_need (s ∷ systems) zero maps = refl
  at_need (s ∷ systems) (suc place) maps = by (at_need systems place (effect s tick maps).maps) (has_pool (lists s).write pool) refl
    where
      by : at lists effect systems tick (effect s tick maps).maps pool (need (map lists systems) place pool) ≡ slice_get (maps_before effect systems tick (effect s tick maps).maps place) pool
          → (b : Bool) → has_pool (lists s).write pool ≡ b
          → at lists effect (s ∷ systems) tick maps pool (need (map lists (s ∷ systems)) (suc place) pool) ≡ slice_get (maps_before effect (s ∷ systems) tick maps (suc place)) pool
      by rest true named =
          ap (at lists effect (s ∷ systems) tick maps pool) (writers-cons (lists s) (take place (map lists systems)) pool ∙ ap (λ b. one_if b + writers (take place (map lists systems)) pool) named ∙ suc-plus (need (map lists systems) place pool))
          ∙ written s systems maps (need (map lists systems) place pool) named ∙ rest
      by rest false absent =
          ap (at lists effect (s ∷ systems) tick maps pool) (writers-cons (lists s) (take place (map lists systems)) pool ∙ ap (λ b. one_if b + writers (take place (map lists systems)) pool) absent ∙ zero-add _)
          ∙ passed s systems maps (need (map lists systems) place pool) absent ∙ rest

  -- the system at a place raises what is needed after it, of just what it writes
  pub need_after : (systems : List S) (place : ℕ) (s : S) → slice_get systems place ≡ Some s → has_pool (lists s).write pool ≡ true
      → need (map lists systems) (suc place) pool ≡ need (map lists systems) place pool + 1
  need_after [] place s is named = absurd (none-some s is)
  need_after (x ∷ systems) zero s is named =
      writers-cons (lists x) [] pool ∙ ap (λ (y : S). one_if (has_pool (lists y).write pool) + 0) (same_Some x s is) ∙ ap (λ b. one_if b + 0) named
  need_after (x ∷ systems) (suc place) s is named =
      let first : ℕ = one_if (has_pool (lists x).write pool) in
      writers-cons (lists x) (take (suc place) (map lists systems)) pool ∙ ap (λ n. first + n) (need_after systems place s is named)
      ∙ sym (assoc first (need (map lists systems) place pool)) ∙ ap (λ n. n + 1) (sym (writers-cons (lists x) (take place (map lists systems)) pool))
    where
      assoc : (a b : ℕ) → (a + b) + 1 ≡ a + (b + 1)
      assoc a b = omega arith

  -- what is needed is at most what is there
  pub need_within : (systems : List S) (place : ℕ) → need (map lists systems) place pool ≤ writers (map lists systems) pool
  need_within [] zero = omega arith
  need_within [] (suc place) = omega arith
  need_within (x ∷ systems) zero = omega arith
  need_within (x ∷ systems) (suc place) =
      let first : ℕ = one_if (has_pool (lists x).write pool) in
      let rest = need_within systems place in
      omega (arith, rest, writers-cons (lists x) (take place (map lists systems)) pool, writers-cons (lists x) (map lists systems) pool)

  -- what is needed past the last system is all that is there
  pub need_all : (systems : List S) → need (map lists systems) (length systems) pool ≡ writers (map lists systems) pool
  need_all systems = ap (λ (xs : List Access). writers xs pool) (all_taken systems)
    where
      all_taken : (xs : List S) → take (length xs) (map lists xs) ≡ map lists xs
      all_taken [] = refl
      all_taken (x ∷ xs) = ap (λ ys. lists x ∷ ys) (all_taken xs)

  -- at its last version a pool is as the fold leaves it
  pub at_last : (systems : List S) (maps : Maps) → at lists effect systems tick maps pool (writers (map lists systems) pool) ≡ slice_get (maps_after_systems (map effect systems) tick maps) pool
  at_last systems maps =
      ap (at lists effect systems tick maps pool) (sym (need_all systems)) ∙ at_need systems (length systems) maps
      ∙ ap (λ (xs : List S). slice_get (maps_after_systems (map effect xs) tick maps) pool) (take_all (length systems) systems (le_refl (length systems)))

module _ {S : Type 0} (lists : S → Access) (effect : S → System) (tick : ℕ) where
  -- the rows after one system more
  pub before_next : (systems : List S) (place : ℕ) (s : S) (maps : Maps) → slice_get systems place ≡ Some s
      → maps_before effect systems tick maps (suc place) ≡ (effect s tick (maps_before effect systems tick maps place)).maps
  before_next [] place s maps is = absurd (none-some s is)
  before_next (x ∷ systems) zero s maps is = ap (λ (y : S). (effect y tick maps).maps) (same_Some x s is)
  before_next (x ∷ systems) (suc place) s maps is = before_next systems place s (effect x tick maps).maps is

  -- the orders of the system at a place
  pub orders_at : (systems : List S) (place : ℕ) (s : S) (maps : Maps) → slice_get systems place ≡ Some s
      → slice_get (orders_of (map effect systems) tick maps) place ≡ Some (effect s tick (maps_before effect systems tick maps place)).orders
  orders_at [] place s maps is = absurd (none-some s is)
  orders_at (x ∷ systems) zero s maps is = ap (λ (y : S). Some (effect y tick maps).orders) (same_Some x s is)
  orders_at (x ∷ systems) (suc place) s maps is = orders_at systems place s (effect x tick maps).maps is

  pub orders_count : (systems : List S) (maps : Maps) → length (orders_of (map effect systems) tick maps) ≡ length systems
  orders_count [] maps = refl
  orders_count (x ∷ systems) maps = ap suc (orders_count systems (effect x tick maps).maps)

  module _ (frame : (s : S) → ChangesOnlyItsRows (lists s) (effect s)) where
    -- identifiers stay throughout
    pub keys_before : (systems : List S) (place : ℕ) (maps : Maps) → map entries.keys (maps_before effect systems tick maps place) ≡ map entries.keys maps
    keys_before systems zero maps = refl
    keys_before [] (suc place) maps = refl
    keys_before (x ∷ systems) (suc place) maps = keys_before systems place (effect x tick maps).maps ∙ (frame x).identifiers tick maps

    -- what a system writes is then at the next version
    pub raised : (systems : List S) (place : ℕ) (s : S) (maps : Maps) (pool : ℕ) → slice_get systems place ≡ Some s → has_pool (lists s).write pool ≡ true
        → at lists effect systems tick maps pool (need (map lists systems) place pool + 1) ≡ slice_get (effect s tick (maps_before effect systems tick maps place)).maps pool
    raised systems place s maps pool is named =
        ap (at lists effect systems tick maps pool) (sym (need_after lists effect frame tick pool systems place s is named)) ∙ at_need lists effect frame tick pool systems (suc place) maps
        ∙ ap (λ (m : Maps). slice_get m pool) (before_next systems place s maps is)

    module _ (local : (s : S) → DependsOnItsLists (lists s) (effect s)) where
      -- a system on pools at what it needs leaves what it writes at the next version, and gives its orders of the fold
      pub one_step : (systems : List S) (place : ℕ) (s : S) (maps found : Maps) → slice_get systems place ≡ Some s
          → ((pool : ℕ) → has_pool (system_pools (lists s)) pool ≡ true → slice_get found pool ≡ at lists effect systems tick maps pool (need (map lists systems) place pool))
          → ((pool : ℕ) → has_pool (lists s).write pool ≡ true → slice_get (effect s tick found).maps pool ≡ at lists effect systems tick maps pool (need (map lists systems) place pool + 1))
          × ((effect s tick found).orders ≡ (effect s tick (maps_before effect systems tick maps place)).orders)
      one_step systems place s maps found is shown =
          let same : AreSameIn (system_pools (lists s)) found (maps_before effect systems tick maps place) = λ pool named. shown pool named ∙ at_need lists effect frame tick pool systems place maps in (
            λ pool named. (local s).rows tick found (maps_before effect systems tick maps place) same pool named ∙ sym (raised systems place s maps pool is named),
            (local s).orders tick found (maps_before effect systems tick maps place) same,
          )

at_most_one : (b : Bool) → one_if b ≤ 1
at_most_one true = omega arith
at_most_one false = omega arith

-- there are no more writers than systems
pub writers_few : (accesses : List Access) (pool : ℕ) → writers accesses pool ≤ length accesses
writers_few [] pool = omega arith
writers_few (a ∷ accesses) pool = omega (arith, writers-cons a accesses pool, at_most_one (has_pool a.write pool), writers_few accesses pool)
