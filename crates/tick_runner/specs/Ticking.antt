-- What a tick does to a registry.
use Rattle.std.specs.Prelude.{ℕ, List}
use Rattle.std.specs.List.{AllByRecursion}
use Rattle.world_model.specs.declared.deferred.Deferred.{Deferred}
use Rattle.world_model.specs.declared.world.World.{World}
use Rattle.world_model.specs.Orders.{IsFitting}
use Rattle.world_model.specs.Ticks.{System, maps_after_systems, orders_of, world_after_orders, order_events}
use Rattle.registry.specs.Held.{Held, Becomes}

-- lists of orders of which each may stand in a registry: it fits the profile and the components
abbrev pub AreFittingLists : Held → List (List Deferred) → Type 0
AreFittingLists held lists = AllByRecursion (AllByRecursion (IsFitting held.world.profile held.world.decls)) lists

-- lists of orders were carried out, one after another, each of which begins with nothing spawned
abbrev pub CarriesOut : Held → Held → List (List Deferred) → Type 0
CarriesOut old new lists = Becomes old new (world_after_orders old.limit old.world lists) (order_events old.limit old.world lists)

-- the world of a registry with the rows that systems leave at a tick number, which the registry doesn't keep
abbrev pub world_with_rows : Held → List System → ℕ → World
world_with_rows held systems tick = record held.world { pools = maps_after_systems systems tick held.world.pools }

-- a tick of this number: the systems ran, one after another, each on the rows that those before it left, and then the orders of each were
-- carried out, in the same order
abbrev pub Ticks : Held → Held → List System → ℕ → Type 0
Ticks old new systems tick =
    let after = world_with_rows old systems tick in
    let lists = orders_of systems tick old.world.pools in
    Becomes old new (world_after_orders old.limit after lists) (order_events old.limit after lists)
