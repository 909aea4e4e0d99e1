use Rattle.std.proofs.Common.{◌≡◌, ◌+◌, ◌-◌, ◌<◌, ◌≤◌, drop, length}
use Rattle.std.specs.Int.{bit_at}
use Rattle.std.specs.List.{sum_by}
use Rattle.group_engine.specs.Grouped.{packed_of, cores_of, AreStill, moves}
use Rattle.group_engine.specs.Moving.{AreMixed, HaveSame, goes_out, cost_in}
use Rattle.group_engine.proofs.PassLemmas.{leaving}
use Rattle.group_engine.proofs.passes.leave_all.Given as goal

abbrev pub invariant-loop-left : goal.invariant-loop-left
invariant-loop-left g l = record {
  low : l.left ≤ length l.order;
  set : 0 < l.left → bit_at l.mask (l.left - 1) ≡ 1;
  mixed : AreMixed l.decls l.lens (packed_of l.fn.pools) (packed_of l.pools) l.entity (leaving (packed_of l.fn.pools) l.entity l.pool l.held l.order l.left);
  same : HaveSame (packed_of l.fn.pools) (packed_of l.pools);
  still : AreStill (moves l.decls l.pool) (packed_of l.fn.pools) (packed_of l.pools);
  cores : cores_of l.pools ≡ cores_of l.fn.pools;
  each : length l.lens ≡ length l.fn.lens;
  steps : l.steps ≤ l.fn.steps + sum_by (cost_in l.decls (goes_out (packed_of l.fn.pools) l.entity l.pool l.held)) (drop l.left l.order);
}

abbrev pub decreases-loop-left : goal.decreases-loop-left
decreases-loop-left g l = l.left
