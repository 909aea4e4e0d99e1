use Rattle.std.proofs.Common.{◌≡◌, ◌%◌, ◌^◌, take}
use Rattle.std.specs.Prelude.{sum_by}
use Rattle.std.specs.Int.{w64, cast_unsigned}
use Rattle.world_model.specs.Contents.{row_at}
use Rattle.world_maker.specs.Summaries.{ints_of}
use Rattle.world_maker.proofs.tally.bits_of_pool.Given as goal

abbrev pub invariant-loop-entity : goal.invariant-loop-entity
invariant-loop-entity g l =
    l.sum ≡ sum_by (λ entity. sum_by (cast_unsigned w64) (ints_of l.decl (row_at l.registry.world l.pool entity))) (take l.entity-index l.list) % 2 ^ 64
