use Rattle.std.proofs.Common.{◌≡◌, ◌+◌, ◌*◌, ◌≤◌, take, length}
use Rattle.std.specs.List.{sum_by}
use Rattle.world_model.specs.Groups.{has_pool, group_pools, packed_at}
use Rattle.group_engine.specs.Grouped.{packed_of, cores_of, moves, AreStill}
use Rattle.group_engine.specs.Moving.{HaveSame, cost_in}
use Rattle.group_engine.proofs.ClearLemmas.{AreCleared}
use Rattle.group_engine.proofs.clearing.before_clear.Given as goal

abbrev pub invariant-loop-i : goal.invariant-loop-i
invariant-loop-i g l = record {
  cleared : AreCleared (packed_of l.fn.pools) l.pool l.decls l.order l.lens (packed_of l.pools) l.i;
  still : AreStill (moves l.decls l.pool) (packed_of l.fn.pools) (packed_of l.pools);
  same : HaveSame (packed_of l.fn.pools) (packed_of l.pools);
  cores : cores_of l.pools ≡ cores_of l.fn.pools;
  each : length l.lens ≡ length l.fn.lens;
  steps : l.steps ≤ l.fn.steps + length (packed_at (packed_of l.fn.pools) l.pool) * sum_by (cost_in l.decls (λ decl. has_pool (group_pools decl) l.pool)) (take l.i l.order);
}
