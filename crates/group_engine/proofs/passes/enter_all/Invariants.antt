use Rattle.std.proofs.Common.{◌≡◌, ◌+◌, ◌-◌, ◌<◌, ◌≤◌, take, length}
use Rattle.std.specs.Int.{bit_at}
use Rattle.std.specs.List.{sum_by}
use Rattle.group_engine.specs.Grouped.{packed_of, cores_of, AreStill, moves}
use Rattle.group_engine.specs.Moving.{AreMixed, HaveSame, comes_in, cost_in}
use Rattle.group_engine.proofs.PassLemmas.{entering}
use Rattle.group_engine.proofs.passes.enter_all.Given as goal

abbrev pub invariant-loop-place : goal.invariant-loop-place
invariant-loop-place g l = record {
  set : l.place < length l.order → bit_at l.mask l.place ≡ 1;
  mixed : AreMixed l.decls l.lens (packed_of l.fn.pools) (packed_of l.pools) l.entity (entering (packed_of l.fn.pools) l.entity l.pool l.held l.order l.place);
  same : HaveSame (packed_of l.fn.pools) (packed_of l.pools);
  still : AreStill (moves l.decls l.pool) (packed_of l.fn.pools) (packed_of l.pools);
  cores : cores_of l.pools ≡ cores_of l.fn.pools;
  each : length l.lens ≡ length l.fn.lens;
  steps : l.steps ≤ l.fn.steps + sum_by (cost_in l.decls (comes_in (packed_of l.fn.pools) l.entity l.pool l.held)) (take l.place l.order);
}

abbrev pub decreases-loop-place : goal.decreases-loop-place
decreases-loop-place g l = length l.order - l.place
