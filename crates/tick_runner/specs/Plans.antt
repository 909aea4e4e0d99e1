-- What is made before the workers of a tick start.
use Rattle.std.specs.Prelude.{◌≡◌, ◌↔◌, ℕ, ◌<◌, ◌≤◌, ◌^◌, List, map, length, Some, slice_get, slice_index_or}
use Rattle.storage.specs.Stored.{Stored}
use Rattle.world_model.specs.declared.access.Access.{Access}
use Rattle.world_model.specs.declared.component.Row.{Row}
use Rattle.world_model.specs.Frames.{IsLawfulAccess}
use Rattle.system_api.specs.Running.{sizes_of}
use Rattle.registry.specs.Layout.{maps_of}
use Rattle.access_graph.specs.Conflicts.{ComesBefore, need}
use Rattle.access_graph.specs.Systems.{system_limit}
use Rattle.pool_slots.specs.declared.held.PoolTag.{PoolTag}
use Rattle.pool_slots.specs.Tags.{AreSlots, firsts_of}
use Rattle.ready_board.specs.Seats.{preds_in}
use Rattle.ready_board.specs.Sets.{Has, preds_of}
use Rattle.tick_runner.specs.declared.plan.Part.{Part}
use Rattle.tick_runner.specs.declared.plan.Plan.{Plan}
use Rattle.tick_runner.specs.declared.versions.fact.TickFact.{TickFact}
use Rattle.tick_runner.specs.Walking.{IsPrefixFor}

-- for each system, as the bits of a number, those that come before it
pub record ArePredecessors (accesses : List Access) (preds : List ℕ) : Type 0 where
  pub counted : length preds ≡ length accesses
  pub each : (earlier system : ℕ) → system < length accesses → Has (preds_of preds system) earlier ↔ ComesBefore accesses earlier system

-- for each of so many pools how often it has been written once it is the turn of the system at a place
pub record HasNeeds (accesses : List Access) (place count : ℕ) (needs : List ℕ) : Type 0 where
  pub counted : length needs ≡ count
  pub each : (pool : ℕ) → pool < count → slice_index_or needs pool 0 ≡ need accesses place pool

-- what the system at a place runs with: a prefix along which it may walk, if one is known, the versions at which it needs pools, and room
-- for as many orders as it gives at most
pub record IsPartFor {S : Type 0} (lists : S → Access) (limit : S → List ℕ → ℕ) (systems : List S) (pools : List (Stored Row)) (place : ℕ) (system : S) (part : Part) : Type 0 where
  pub prefix : IsPrefixFor (lists system) pools part.prefix
  pub needs : HasNeeds (map lists systems) place (length pools) part.needs.items
  pub buffer : part.buffer.slot ≡ limit system (sizes_of (maps_of pools))

-- the plan of a tick of these systems on these pools, each of which may run on them
pub record IsPlanFor {S : Type 0} (lists : S → Access) (limit : S → List ℕ → ℕ) (systems : List S) (pools : List (Stored Row)) (plan : Plan) : Type 0 where
  pub few : length systems ≤ system_limit
  pub lawful : (place : ℕ) (system : S) → slice_get systems place ≡ Some system → IsLawfulAccess (length pools) (lists system)
  pub board : ArePredecessors (map lists systems) (preds_in plan.board)
  pub counted : length plan.parts.items ≡ length systems
  pub parts : (place : ℕ) (system : S) (part : Part) → slice_get systems place ≡ Some system → slice_get plan.parts.items place ≡ Some part → IsPartFor lists limit systems pools place system part
  pub lasts : HasNeeds (map lists systems) (length systems) (length pools) plan.lasts.items

-- slots of a tick: their fact is the tick's, and they were filled with its pools
pub record AreOfTick {S : Type 0} (fact : TickFact S) (tags : List (PoolTag (TickFact S))) : Type 0 where
  pub slots : AreSlots fact tags
  pub pools : firsts_of tags ≡ fact.pools.value.items

-- what the workers of a tick share fits together
pub record IsShared {S : Type 0} (lists : S → Access) (limit : S → List ℕ → ℕ) (systems : List S) (fact : TickFact S) (tags : List (PoolTag (TickFact S))) (plan : Plan) : Type 0 where
  pub systems_are : fact.systems.value.now ≡ systems
  pub tick : fact.tick < 2 ^ 63
  pub slots : AreOfTick fact tags
  pub plan_is : IsPlanFor lists limit systems fact.pools.value.items plan
