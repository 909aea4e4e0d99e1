use Rattle.std.proofs.Common.{◌≡◌, take}
use Rattle.std.specs.List.{flat_map, zip}
use Rattle.world_maker.specs.Summaries.{bits_sum, ints_of_pool}
use Rattle.world_maker.proofs.tally.sum_of_ints.Given as goal

abbrev pub invariant-loop-pool : goal.invariant-loop-pool
invariant-loop-pool g l =
    l.sum ≡ bits_sum (flat_map (λ pool. ints_of_pool pool.0 pool.1) (zip (take l.pool l.registry.world.decls) l.registry.world.pools))
