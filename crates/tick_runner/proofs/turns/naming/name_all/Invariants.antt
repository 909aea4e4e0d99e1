use Rattle.std.proofs.Common.{◌≡◌, ◌≤◌, ◌+◌, ◌||◌, ℕ, length, take}
use Rattle.std.specs.Prelude.{IsTrue}
use Rattle.world_model.specs.Groups.{are_distinct, has_pool}
use Rattle.tick_runner.proofs.turns.naming.name_all.Given as goal

abbrev pub invariant-loop-pool : goal.invariant-loop-pool
invariant-loop-pool l = record {
  few : length l.pools.items ≤ length l.initial.pools.items + l.pool-index;
  distinct : IsTrue (are_distinct l.initial.pools.items) → IsTrue (are_distinct l.pools.items);
  named : (other : ℕ) → has_pool l.pools.items other ≡ has_pool l.initial.pools.items other || has_pool (take l.pool-index l.list) other;
}
