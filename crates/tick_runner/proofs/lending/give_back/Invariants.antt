use Rattle.std.proofs.Common.{◌≡◌, ◌≤◌, true, length, vec_capacity}
use Rattle.world_model.specs.Groups.{are_declared}
use Rattle.system_api.specs.Registers.{numbers}
use Rattle.tick_runner.specs.Putting.{put_back}
use Rattle.tick_runner.proofs.lending.give_back.Given as goal

abbrev pub invariant-loop-pool : goal.invariant-loop-pool
invariant-loop-pool l = record {
  pools : put_back l.writes.items l.pools.items ≡ put_back l.initial.writes.items l.initial.pools.items;
  declared : are_declared (length l.pools.items) (numbers l.writes.items) ≡ true;
  room : vec_capacity l.initial.writes ≤ vec_capacity l.writes;
}

abbrev pub decreases-loop-pool : goal.decreases-loop-pool
decreases-loop-pool l = goal.left-loop-pool l
