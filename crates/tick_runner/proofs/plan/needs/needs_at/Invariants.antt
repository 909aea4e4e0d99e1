use Rattle.std.proofs.Common.{◌≡◌, ℕ, ◌<◌, length, slice_index_or}
use Rattle.access_graph.specs.Conflicts.{need}
use Rattle.tick_runner.proofs.plan.needs.needs_at.Given as goal

abbrev pub invariant-loop-pool : goal.invariant-loop-pool
invariant-loop-pool l = record {
  counted : length l.needs.items ≡ l.pool;
  each : (pool : ℕ) → pool < l.pool → slice_index_or l.needs.items pool 0 ≡ need l.accesses l.place pool;
}
