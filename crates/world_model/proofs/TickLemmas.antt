-- What lists of orders and ticks leave.
use Rattle.std.proofs.Common.{◌≡◌, ℕ, zero, suc, ◌+◌, List, [], ◌∷◌, ap, ◌∙◌, arith, suc-add, zero-add}
use Rattle.std.specs.List.{AllByRecursion}
use Rattle.entity_id.proofs.ListLemmas.{all_weaker}
use Rattle.world_model.specs.declared.deferred.Deferred.{Deferred}
use Rattle.world_model.specs.declared.world.World.{World}
use Rattle.world_model.specs.Orders.{IsFitting, beginning, apply_all}
use Rattle.world_model.specs.Ticks.{System, orders_of, world_after_orders, world_after_systems, world_after_tick, world_after_ticks}
use Rattle.world_model.specs.Worlds.{IsLawful}
use Rattle.world_model.proofs.OrderLaw.{orders_lawful, orders_same, fitting_after}
use Rattle.world_model.proofs.StepLemmas.{SameComponents, same, both}

-- ---- lists of orders

lists_same : (limit : ℕ) (w : World) (lists : List (List Deferred)) → SameComponents w (world_after_orders limit w lists)
lists_same limit w [] = same w
lists_same limit w (orders ∷ lists) = both (orders_same limit (beginning w) orders) (lists_same limit (apply_all limit (beginning w) orders).world lists)

pub lists_lawful : (limit : ℕ) (w : World) (lists : List (List Deferred)) → IsLawful limit w → AllByRecursion (AllByRecursion (IsFitting w.profile w.decls)) lists → IsLawful limit (world_after_orders limit w lists)
lists_lawful limit w [] h fit = h
lists_lawful limit w (orders ∷ lists) h fit =
    let after : World = (apply_all limit (beginning w) orders).world in
    let keeps = orders_same limit (beginning w) orders in
    lists_lawful limit after lists (orders_lawful limit (beginning w) orders h fit.0)
    (all_weaker _ _ (λ list. fitting_after w after list keeps) lists fit.1)

-- ---- ticks

-- a lawful world is lawful at every tick number
at_tick_lawful : (limit tick : ℕ) (w : World) → IsLawful limit w → IsLawful limit (record w { tick = tick })
at_tick_lawful limit tick w h = record { profile = h.profile; few_decls = h.few_decls; decls = h.decls; slots = h.slots; pools = h.pools; groups = h.groups }

-- a tick leaves a lawful world where its systems leave one, and fitting orders
pub tick_lawful : (limit : ℕ) (systems : List System) (w : World) → IsLawful limit (world_after_systems systems w)
    → AllByRecursion (AllByRecursion (IsFitting w.profile w.decls)) (orders_of systems w.tick w.pools) → IsLawful limit (world_after_tick limit systems w)
tick_lawful limit systems w h fit = at_tick_lawful limit _ _ (lists_lawful limit (world_after_systems systems w) (orders_of systems w.tick w.pools) h fit)

tick_number : (limit : ℕ) (systems : List System) (w : World) → (world_after_tick limit systems w).tick ≡ w.tick + 1
tick_number limit systems w = ap (λ n. n + 1) (lists_same limit (world_after_systems systems w) (orders_of systems w.tick w.pools)).tick

-- each tick is counted
pub ticks_number : (limit : ℕ) (systems : List System) (n : ℕ) (w : World) → (world_after_ticks limit systems n w).tick ≡ w.tick + n
ticks_number limit systems zero w = omega arith
ticks_number limit systems (suc n) w = omega (arith, tick_number limit systems w, ticks_number limit systems n (world_after_tick limit systems w))

-- ticks in two parts
pub ticks-add : (limit : ℕ) (systems : List System) (a b : ℕ) (w : World) → world_after_ticks limit systems (a + b) w ≡ world_after_ticks limit systems b (world_after_ticks limit systems a w)
ticks-add limit systems zero b w = ap (λ n. world_after_ticks limit systems n w) (zero-add b)
ticks-add limit systems (suc a) b w = ap (λ n. world_after_ticks limit systems n w) (suc-add a b) ∙ ticks-add limit systems a b (world_after_tick limit systems w)
