use Rattle.std.proofs.Common.{◌≡◌, ℕ, ◌<◌, length, slice_get, Some}
use Rattle.storage.specs.Stored.{Stored}
use Rattle.world_model.specs.declared.component.Row.{Row}
use Rattle.pool_slots.specs.Tags.{IsAdmitted}
use Rattle.pool_slots.proofs.slots.Slots.close.Given as goal

abbrev pub invariant-loop-pool : goal.invariant-loop-pool
invariant-loop-pool g l = record {
  each : length l.pools.items ≡ length l.initial.pools.items;
  back : (k : ℕ) (stored : Stored Row) → k < l.pool → slice_get l.pools.items k ≡ Some stored → IsAdmitted g.F.PoolFact.admits l.fn.self k stored;
}
