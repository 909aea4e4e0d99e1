use Rattle.std.proofs.Common.{◌≡◌, ◌*◌, ◌%◌}
use Rattle.world_maker.specs.Draws.{draws_behind}
use Rattle.world_maker.specs.Making.{rows_of_first}
use Rattle.world_maker.proofs.making.draw_pools.Given as goal

abbrev pub invariant-loop-index : goal.invariant-loop-index
invariant-loop-index l = record {
  pools : l.pools ≡ rows_of_first l.number l.count l.index;
  last : l.draws.last ≡ draws_behind (l.number % 65537) (10 * l.index);
}
