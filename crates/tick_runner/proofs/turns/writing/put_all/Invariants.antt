use Rattle.std.proofs.Common.{◌≤◌, vec_capacity}
use Rattle.std.specs.List.{AllZip}
use Rattle.tick_runner.specs.Turns.{MayComeBack}
use Rattle.tick_runner.proofs.turns.writing.put_all.Given as goal

abbrev pub invariant-loop-pool : goal.invariant-loop-pool
invariant-loop-pool g l = record {
  back : AllZip (MayComeBack g.F.PoolFact.admits) l.places.items l.writes.items;
  room : vec_capacity l.initial.writes ≤ vec_capacity l.writes;
}

abbrev pub decreases-loop-pool : goal.decreases-loop-pool
decreases-loop-pool g l = goal.left-loop-pool g l
