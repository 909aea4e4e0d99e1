-- The laws of a system of the language that runs.
use Rattle.std.proofs.Common.{◌≡◌, ℕ, zero, suc, ◌*◌, ◌<◌, ◌≤◌, ◌==◌, Bool, true, false, cond, ◌||◌, List, [], ◌∷◌, ◌++◌, length, refl, sym, ap, ap₂, ◌∙◌, subst, slice_get, eq-eqb}
use Rattle.std.specs.Prelude.{nat_lt, unwrap_or}
use Rattle.std.specs.List.{AllByRecursion}
use Rattle.std.proofs.Math.Bridge.{le_prop}
use Rattle.std.proofs.Math.Logic.{∥∥₁_elim}
use Rattle.std.proofs.Math.Nat.{lt_irrefl}
use Rattle.std.proofs.lemmas.Bool.{false≢true}
use Rattle.entity_id.specs.declared.entity.Profile.{Profile}
use Rattle.world_model.specs.Frames.{AreAscendingMaps, ChangesOnlyItsRows, DependsOnItsLists, map_at, own_pools, system_pools}
use Rattle.world_model.specs.Groups.{has_pool}
use Rattle.world_model.specs.Ticks.{Maps}
use Rattle.row_lang.specs.Effects.{system_effect}
use Rattle.row_lang.specs.Systems.{System, command_count}
use Rattle.row_lang.proofs.FrameLemmas.{changes_only_its_rows}
use Rattle.row_lang.proofs.LocalLemmas.{depends_on_its_lists, named_before}
use Rattle.row_lang.proofs.SmallestLemmas.{gives_at_most_of_each}
use Rattle.system_api.specs.Running.{sizes_of, AreSameSizesIn}
use Rattle.system_eval.specs.Runs.{IsRunnable, smaller, least_of, size_at, sizes_at, least_size, order_limit}

-- ---- the smallest size

-- what holds of two numbers holds of the one that is chosen
either-has : (P : ℕ → Type 0) (b : Bool) (x y : ℕ) → P x → P y → P (cond b x y)
either-has P true x y here there = here
either-has P false x y here there = there

-- what holds of all sizes holds of the smallest
pub least-has : (P : ℕ → Type 0) (first : ℕ) (sizes : List ℕ) → P first → AllByRecursion P sizes → P (least_of first sizes)
least-has P first [] here all = here
least-has P first (size ∷ sizes) here all =
    least-has P (smaller first size) sizes (either-has P (nat_lt size first) size first all.0 here) all.1

-- a test passes where its first part does
or-first : (b c : Bool) → b ≡ true → (b || c) ≡ true
or-first true c is = refl
or-first false c is = absurd (false≢true is)

-- and where its second part does
or-second : (b c : Bool) → c ≡ true → (b || c) ≡ true
or-second true c is = refl
or-second false c is = is

-- a list names its first component
named-first : (pool : ℕ) (pools : List ℕ) → has_pool (pool ∷ pools) pool ≡ true
named-first pool pools = or-first (pool == pool) (has_pool pools pool) (eq-eqb pool pool refl)

-- and those behind it
named-later : (first : ℕ) (pools : List ℕ) (pool : ℕ) → has_pool pools pool ≡ true → has_pool (first ∷ pools) pool ≡ true
named-later first pools pool is = or-second (first == pool) (has_pool pools pool) is

-- what holds of the size of each named component holds of all their sizes
each-size : (P : ℕ → Type 0) (sizes pools : List ℕ) → ((pool : ℕ) → has_pool pools pool ≡ true → P (size_at sizes pool)) →
    AllByRecursion P (sizes_at sizes pools)
each-size P sizes [] each = tt
each-size P sizes (pool ∷ pools) each =
    (each pool (named-first pool pools), each-size P sizes pools (λ other is. each other (named-later pool pools other is)))

-- and of the smallest of them
pub least-size-has : (P : ℕ → Type 0) (sizes pools : List ℕ) → 0 < length pools →
    ((pool : ℕ) → has_pool pools pool ≡ true → P (size_at sizes pool)) → P (least_size sizes pools)
least-size-has P sizes [] some each = absurd (lt_irrefl 0 some)
least-size-has P sizes (pool ∷ pools) some each =
    least-has P (size_at sizes pool) (sizes_at sizes pools) (each pool (named-first pool pools))
    (each-size P sizes pools (λ other is. each other (named-later pool pools other is)))

-- the size of a component is how many rows it has
pub size-of : (maps : Maps) (pool : ℕ) → size_at (sizes_of maps) pool ≡ length (map_at maps pool)
size-of [] pool = refl
size-of (m ∷ maps) zero = refl
size-of (m ∷ maps) (suc pool) = size-of maps pool

-- ---- sizes that are the same for some components

-- the size at a place, or none
get-size : (sizes : List ℕ) (pool : ℕ) → size_at sizes pool ≡ unwrap_or (slice_get sizes pool) 0
get-size [] pool = refl
get-size (size ∷ sizes) zero = refl
get-size (size ∷ sizes) (suc pool) = get-size sizes pool

-- all their sizes are the same
same-sizes : (a b pools : List ℕ) → ((pool : ℕ) → has_pool pools pool ≡ true → size_at a pool ≡ size_at b pool) →
    sizes_at a pools ≡ sizes_at b pools
same-sizes a b [] same = refl
same-sizes a b (pool ∷ pools) same =
    ap₂ (λ (x : ℕ) (xs : List ℕ). x ∷ xs) (same pool (named-first pool pools))
    (same-sizes a b pools (λ other is. same other (named-later pool pools other is)))

-- and so is the smallest
same-least : (a b pools : List ℕ) → ((pool : ℕ) → has_pool pools pool ≡ true → size_at a pool ≡ size_at b pool) →
    least_size a pools ≡ least_size b pools
same-least a b [] same = refl
same-least a b (pool ∷ pools) same =
    ap₂ least_of (same pool (named-first pool pools)) (same-sizes a b pools (λ other is. same other (named-later pool pools other is)))

-- ---- the laws

-- it changes rows of its entities in what it writes, and nothing else
pub row-frame : (profile : Profile) (system : System) → ChangesOnlyItsRows system.access (system_effect profile system)
row-frame = changes_only_its_rows

-- it depends on the components of its lists alone
pub row-local : (profile : Profile) (system : System) → DependsOnItsLists system.access (system_effect profile system)
row-local = depends_on_its_lists

-- it gives no more orders than its limit
pub row-few : (profile : Profile) (system : System) → ∥ IsRunnable system ∥₁ → (tick : ℕ) (maps : Maps) → AreAscendingMaps maps →
    length (system_effect profile system tick maps).orders ≤ order_limit system (sizes_of maps)
row-few profile system checked tick maps up = ∥∥₁_elim checked le_prop (λ (r : IsRunnable system).
    least-size-has (λ n. length (system_effect profile system tick maps).orders ≤ command_count system.statements * n)
    (sizes_of maps) (own_pools system.access) r.checked.lists.some
    (λ pool named.
    subst (λ (n : ℕ). length (system_effect profile system tick maps).orders ≤ command_count system.statements * n)
    (sym (size-of maps pool)) (gives_at_most_of_each profile r.decls system r.checked tick maps pool up named)))

-- its limit depends on the sizes of the components of its lists alone
pub row-sized : (system : System) (a b : List ℕ) → AreSameSizesIn (system_pools system.access) a b → order_limit system a ≡ order_limit system b
row-sized system a b same =
    let own = own_pools system.access in
    let look = system.access.look in
    ap (λ (n : ℕ). command_count system.statements * n) (same-least a b own (λ pool named.
    get-size a pool
    ∙ ap (λ o. unwrap_or o 0) (same pool (named_before (own ++ look) system.access.without pool (named_before own look pool named)))
    ∙ sym (get-size b pool)))
