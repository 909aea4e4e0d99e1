-- What orders carried out do to a registry.
use Rattle.std.specs.Prelude.{◌≡◌, ℕ, Bool, not, List, take, Option}
use Rattle.entity_id.specs.declared.entity.Entity.{Entity}
use Rattle.world_model.specs.declared.deferred.Applied.{Applied}
use Rattle.world_model.specs.declared.deferred.Deferred.{Deferred}
use Rattle.world_model.specs.Orders.{Progress, beginning, order_outcome, is_refused, apply_all}
use Rattle.world_model.specs.Outcomes.{Outcome}
use Rattle.registry.specs.Held.{Held, Becomes}

-- ---- one order

-- what an order gives, where this identifier was spawned last
abbrev pub outcome_in : Held → Option Entity → Deferred → Outcome
outcome_in held last order = order_outcome held.limit held.world last order

-- the registry changed as an outcome says, and the answer is whether it was done: it is skipped where it is refused
pub record IsCarriedOut (old new : Held) (outcome : Outcome) (answer : Bool) : Type 0 where
  pub becomes : Becomes old new outcome.world outcome.events
  pub done : answer ≡ not (is_refused outcome.reply)

-- ---- a list of orders

-- how far orders come in a registry, one after another, with nothing spawned before
abbrev pub progress_in : Held → List Deferred → Progress
progress_in held orders = apply_all held.limit (beginning held.world) orders

-- the orders were carried out one after another, and so many were done and so many skipped
pub record Applies (old new : Held) (orders : List Deferred) (applied : Applied) : Type 0 where
  pub becomes : Becomes old new (progress_in old orders).world (progress_in old orders).events
  pub done : applied.done ≡ (progress_in old orders).done
  pub skipped : applied.skipped ≡ (progress_in old orders).skipped

-- the first so many orders were carried out, and no others
abbrev pub AppliesFirst : Held → Held → List Deferred → ℕ → Type 0
AppliesFirst old new orders count = let first = progress_in old (take count orders) in Becomes old new first.world first.events
