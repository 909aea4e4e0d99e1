use Rattle.std.proofs.Common.{◌≡◌, ℕ, ◌<◌, Some, slice_get}
use Rattle.entity_id.specs.FiniteMap as entries
use Rattle.storage.specs.Stored.{Stored}
use Rattle.world_model.specs.declared.component.Row.{Row}
use Rattle.registry.proofs.parts.lawful.know_each_once.Given as goal

abbrev pub invariant-loop-pool : goal.invariant-loop-pool
invariant-loop-pool l = (pool : ℕ) (stored : Stored Row) → pool < l.pool-index → slice_get l.pools pool ≡ Some stored → entries.HasEachOnce stored.pairs
