use Rattle.std.proofs.Common.{ℕ, ◌<◌, get_or}
use Rattle.group_engine.specs.Masks.{may_enter, IsMask}
use Rattle.group_engine.proofs.marking.mark_pools.Given as goal

abbrev pub invariant-loop-pool : goal.invariant-loop-pool
invariant-loop-pool l = record {
  each : (pool : ℕ) → pool < l.pool → IsMask (get_or l.masks pool 0) l.decls l.order (may_enter pool l.held);
}
