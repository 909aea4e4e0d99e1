use Rattle.std.proofs.Common.{◌≡◌, ◌+◌, ◌*◌, ◌≤◌, length}
use Rattle.group_engine.specs.Grouped.{packed_of, cores_of}
use Rattle.group_engine.proofs.ClearLemmas.{IsEntered}
use Rattle.group_engine.proofs.clearing.enter_excluded.Given as goal

abbrev pub invariant-loop-place : goal.invariant-loop-place
invariant-loop-place g l = record {
  entered : IsEntered (packed_of l.fn.pools) (packed_of l.pools) l.pool l.decl l.place l.count;
  cores : cores_of l.pools ≡ cores_of l.fn.pools;
  each : length l.pools ≡ length l.fn.pools;
  steps : l.steps ≤ l.fn.steps + l.place * length l.decl.own;
}
