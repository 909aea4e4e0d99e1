-- A run over a whole own pool, from what is known of the system to what the walk asks, and back.
use Rattle.std.proofs.Common.{◌≡◌, ℕ, ◌*◌, ◌<◌, ◌≤◌, Bool, true, false, ◌||◌, not, eqb, List, [], ◌∷◌, ◌++◌, length, refl, sym, ap, ◌∙◌, subst, arith, inl, inr}
use Rattle.std.specs.Prelude.{IsTrue}
use Rattle.std.specs.List.{AllByRecursion}
use Rattle.std.proofs.Math.Bool.{Bool-set}
use Rattle.std.proofs.Math.Bridge.{le_prop}
use Rattle.std.proofs.Math.Logic.{∥∥₁_elim, ∥∥₁_map}
use Rattle.std.proofs.Math.Nat.{mul-le-mul_left}
use Rattle.std.proofs.lemmas.Bool.{and_parts, and_from, eqb-true, false≢true, or_cases}
use Rattle.std.proofs.lemmas.List.{length-append}
use Rattle.entity_id.specs.declared.entity.Entity.{Entity}
use Rattle.entity_id.specs.FiniteMap as entries
use Rattle.entity_id.proofs.ListLemmas.{all_weaker}
use Rattle.entity_id.proofs.PackedMapLemmas.{ascending-map_of}
use Rattle.world_model.specs.declared.component.Row.{Row}
use Rattle.world_model.specs.Frames.{own_pools, map_at, IsLawfulAccess}
use Rattle.world_model.specs.Groups.{has_pool, are_distinct}
use Rattle.world_model.specs.Ticks.{Maps}
use Rattle.row_lang.specs.Effects.{system_effect}
use Rattle.row_lang.specs.Systems.{System, command_count}
use Rattle.system_api.specs.declared.lent.LentPool.{LentPool}
use Rattle.system_api.specs.Emissions.{Emission, SettlesAs}
use Rattle.system_api.specs.Registers.{Register, numbers, pool_at, StandsFor, Shows}
use Rattle.system_api.specs.Running.{AreLentFor}
use Rattle.system_eval.specs.Lanes.{AreReady}
use Rattle.system_eval.specs.Runs.{IsRunnable, least_size, order_limit}
use Rattle.system_eval.specs.Walks.{Task, own_lent, walked_in, Gives}
use Rattle.system_eval.proofs.OrderEffectLemmas.{orders-now}
use Rattle.system_eval.proofs.RowEffectLemmas.{Covers, at-all, number-named}
use Rattle.system_eval.proofs.ToldLemmas.{own-numbers, own-stand, shown-rows}

-- ---- what is known of a system that may run

distinct-front : (xs ys : List ℕ) → are_distinct (xs ++ ys) ≡ true → are_distinct xs ≡ true
distinct-front [] ys distinct = refl
distinct-front (x ∷ xs) ys distinct =
    let parts = and_parts (not (has_pool (xs ++ ys) x)) (are_distinct (xs ++ ys)) distinct in
    and_from (not (has_pool xs x)) (are_distinct xs) (less (has_pool xs x) refl parts.0) (distinct-front xs ys parts.1)
  where
    more : (pools : List ℕ) → has_pool pools x ≡ true → has_pool (pools ++ ys) x ≡ true
    more [] has = absurd (false≢true has)
    more (p ∷ pools) has = step (eqb p x) has (more pools)
      where
        step : (b : Bool) → (b || has_pool pools x) ≡ true → (has_pool pools x ≡ true → has_pool (pools ++ ys) x ≡ true) → (b || has_pool (pools ++ ys) x) ≡ true
        step true is rest = refl
        step false is rest = rest is

    less : (b : Bool) → has_pool xs x ≡ b → not (has_pool (xs ++ ys) x) ≡ true → not b ≡ true
    less true has free = absurd (false≢true (sym (ap not (more xs has)) ∙ free))
    less false has free = refl

module _ (system : System) (checked : ∥ IsRunnable system ∥₁) where
  pub own-distinct : IsTrue (are_distinct (own_pools system.access))
  own-distinct = ∥∥₁_elim checked (Bool-set _ _) (λ (r : IsRunnable system). distinct-front (own_pools system.access) system.access.without r.checked.lists.apart)

  pub own-few : length (own_pools system.access) ≤ 16
  own-few = ∥∥₁_elim checked le_prop (λ (r : IsRunnable system). few r.checked.lists)
    where
      few : {count : ℕ} → IsLawfulAccess count system.access → length (own_pools system.access) ≤ 16
      few lists = omega (arith, lists.few, length-append (own_pools system.access ++ system.access.look) system.access.without, length-append (own_pools system.access) system.access.look)

  pub own-some : 0 < length (own_pools system.access)
  own-some = ∥∥₁_elim checked le_prop (λ (r : IsRunnable system). r.checked.lists.some)

  pub ready : ∥ AreReady system.access system.statements ∥₁
  ready = ∥∥₁_map checked (λ (r : IsRunnable system). record {
    apart = own-distinct;
    decls = r.decls;
    declared = r.declared;
    each = all_weaker _ _ (λ tokens is. is.1) system.statements r.checked.statements;
  })

-- ---- room

pub room-for : (system : System) (sizes : List ℕ) (n spare : ℕ) → n ≤ least_size sizes (own_pools system.access) → order_limit system sizes ≤ spare → command_count system.statements * n ≤ spare
room-for system sizes n spare least enough =
    let product = mul-le-mul_left (command_count system.statements) least in
    omega (arith, product, enough)

-- ---- the walk

module _ (task : Task) (register : Register) (lent : AreLentFor task.system.access register) (maps : Maps) (shows : Shows register maps) (at end : ℕ)
    (there : at < length (own_lent (length task.system.access.read) register)) where
  abbrev pool : LentPool
  pool = pool_at (own_lent (length task.system.access.read) register) at

  -- the maps of own pools ascend
  ascending-shown : (pools : List LentPool) (n : ℕ) → AllByRecursion (StandsFor maps) pools → has_pool (numbers pools) n ≡ true → entries.IsAscending (map_at maps n)
  ascending-shown [] n stand has = absurd (false≢true has)
  ascending-shown (p ∷ pools) n stand has =
      elim (or_cases (eqb p.number n) (has_pool (numbers pools) n) has) [
        | inl here ↦ subst (λ (k : ℕ). entries.IsAscending (map_at maps k)) (eqb-true p.number n here) (subst (λ (m : List (Entity × Row)). entries.IsAscending m) (sym (shown-rows maps p stand.0)) (ascending-map_of p.storage.pairs))
        | inr later ↦ ascending-shown pools n stand.1 later
      ]

  -- the orders of a walk that comes to all of a system's entities are the system's
  pub orders-all : entries.HasEachOnce pool.storage.pairs → end ≤ length pool.storage.pairs → Covers task maps (walked_in (length task.system.access.read) register at end)
      → (out : List Emission) → Gives task (walked_in (length task.system.access.read) register at end) 0 end register [] out → SettlesAs out (system_effect task.profile task.system task.tick maps).orders
  orders-all once fits covers out gives =
      let pools = own_lent (length task.system.access.read) register in
      let stand = own-stand task.system.access register lent maps shows in
      let named : has_pool (own_pools task.system.access) pool.number ≡ true = subst (λ (ns : List ℕ). has_pool ns pool.number ≡ true) (own-numbers task.system.access register lent) (number-named pools at there) in
      orders-now task register lent maps shows pool.storage.pairs once end fits end (omega arith) covers out gives pool.number named
      (λ own has. ascending-shown pools own stand (subst (λ (ns : List ℕ). has_pool ns own ≡ true) (sym (own-numbers task.system.access register lent)) has))
      (shown-rows maps pool (at-all (StandsFor maps) pools at stand there))
