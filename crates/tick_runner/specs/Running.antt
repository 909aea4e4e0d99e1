-- Systems run one after another.
use Rattle.std.specs.Prelude.{◌≡◌, ℕ, ◌≤◌, List, [], map}
use Rattle.std.specs.List.{AllZip}
use Rattle.world_model.specs.declared.deferred.Deferred.{Deferred}
use Rattle.system_api.specs.Emissions.{Emission, Emissions}

-- the orders in a buffer
abbrev pub orders_in : Emissions → List Deferred
orders_in buffer = map (λ (emission : Emission). emission.order) buffer.list

-- a buffer is empty and has room for so many orders
pub record IsReady (count : ℕ) (buffer : Emissions) : Type 0 where
  pub empty : buffer.list ≡ []
  pub room : count ≤ buffer.spare

-- one buffer for each system, empty and with room for as many orders as the system gives at most on pools of these sizes
abbrev pub AreReady : {S : Type 0} → (S → List ℕ → ℕ) → List S → List ℕ → List Emissions → Type 0
AreReady limit systems sizes buffers = AllZip (λ system buffer. IsReady (limit system sizes) buffer) systems buffers
