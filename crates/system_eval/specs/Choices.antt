-- Which part of which pool a walk may go over. No public clause of the crate cites this file.
use Rattle.std.specs.Prelude.{◌≡◌, ℕ, ◌<◌, ◌≤◌, List, length, IsTrue}
use Rattle.entity_id.specs.declared.entity.Entity.{Entity}
use Rattle.world_model.specs.declared.access.Access.{Access}
use Rattle.world_model.specs.Frames.{own_pools, is_member}
use Rattle.world_model.specs.Ticks.{Maps}
use Rattle.system_api.specs.Batches.{entity_at}
use Rattle.system_api.specs.Registers.{Register, pool_at}
use Rattle.system_api.specs.Running.{sizes_of}
use Rattle.system_eval.specs.Runs.{least_size}
use Rattle.system_eval.specs.Walks.{own_lent, walked_in}

-- each of a system's entities stands in a list
abbrev pub HasAllMembers : Access → Maps → List Entity → Type 0
HasAllMembers access maps list = (e : Entity) → IsTrue (is_member access maps e) → (k : ℕ) × ((k < length list) × (entity_at list k ≡ e))

-- a walk over the first entities, so many of them, of the own pool at a place comes to each of the system's entities, and is no longer than
-- the smallest component of its own
pub record IsChosen (access : Access) (maps : Maps) (register : Register) (at end : ℕ) : Type 0 where
  pub within : end ≤ length (pool_at (own_lent (length access.read) register) at).storage.pairs
  pub all : HasAllMembers access maps (walked_in (length access.read) register at end)
  pub least : end ≤ least_size (sizes_of maps) (own_pools access)
