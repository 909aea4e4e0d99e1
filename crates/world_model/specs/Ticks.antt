-- What a tick does with given effects of its systems: every system once, and then the orders. Which effects a system may have is
-- not said here.
use Rattle.std.specs.Prelude.{ℕ, zero, suc, ◌+◌, List, [], ◌∷◌, ◌++◌}
use Rattle.entity_id.specs.declared.entity.Entity.{Entity}
use Rattle.world_model.specs.declared.component.Row.{Row}
use Rattle.world_model.specs.declared.deferred.Deferred.{Deferred}
use Rattle.world_model.specs.declared.event.Event.{Event}
use Rattle.world_model.specs.declared.world.World.{World}
use Rattle.world_model.specs.Orders.{beginning, apply_all}

-- the rows of every component
abbrev pub Maps : Type 0
Maps = List (List (Entity × Row))

-- what one system leaves: the rows of every component, and its orders
pub record Effect : Type 0 where
  pub maps : Maps
  pub orders : List Deferred

-- what a system does with the tick number and the rows that it finds
abbrev pub System : Type 0
System = ℕ → Maps → Effect

-- the rows after the systems, one after another
abbrev pub maps_after_systems : List System → ℕ → Maps → Maps
maps_after_systems [] tick maps = maps
maps_after_systems (system ∷ systems) tick maps = maps_after_systems systems tick (system tick maps).maps

-- the orders of each system, each from the rows that the systems before it leave
abbrev pub orders_of : List System → ℕ → Maps → List (List Deferred)
orders_of [] tick maps = []
orders_of (system ∷ systems) tick maps = (system tick maps).orders ∷ orders_of systems tick (system tick maps).maps

-- the world after these lists of orders, each of which begins with nothing spawned
abbrev pub world_after_orders : ℕ → World → List (List Deferred) → World
world_after_orders limit w [] = w
world_after_orders limit w (orders ∷ lists) = world_after_orders limit (apply_all limit (beginning w) orders).world lists

-- the events of these lists
abbrev pub order_events : ℕ → World → List (List Deferred) → List Event
order_events limit w [] = []
order_events limit w (orders ∷ lists) =
    let applied = apply_all limit (beginning w) orders in
    applied.events ++ order_events limit applied.world lists

-- the world with the rows that the systems leave; they tell nothing
abbrev pub world_after_systems : List System → World → World
world_after_systems systems w = record w { pools = maps_after_systems systems w.tick w.pools }

-- the world after one tick
abbrev pub world_after_tick : ℕ → List System → World → World
world_after_tick limit systems w =
    let settled = world_after_orders limit (world_after_systems systems w) (orders_of systems w.tick w.pools) in
    record settled { tick = settled.tick + 1 }

-- the events of one tick
abbrev pub tick_events : ℕ → List System → World → List Event
tick_events limit systems w = order_events limit (world_after_systems systems w) (orders_of systems w.tick w.pools)

-- the world after this many ticks
abbrev pub world_after_ticks : ℕ → List System → ℕ → World → World
world_after_ticks limit systems zero w = w
world_after_ticks limit systems (suc n) w = world_after_ticks limit systems n (world_after_tick limit systems w)
