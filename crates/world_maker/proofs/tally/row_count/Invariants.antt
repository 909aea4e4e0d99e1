use Rattle.std.proofs.Common.{◌≡◌, ◌*◌, ◌^◌, ◌≤◌, length, take}
use Rattle.std.specs.Prelude.{sum_by}
use Rattle.world_maker.proofs.tally.row_count.Given as goal

abbrev pub invariant-loop-pool : goal.invariant-loop-pool
invariant-loop-pool g l = record {
  counted : l.count ≡ sum_by length (take l.pool l.registry.world.pools);
  few : l.count ≤ l.pool * 2 ^ 32;
}
