use Rattle.std.proofs.Common.{◌≡◌, take}
use Rattle.world_maker.specs.Summaries.{bits_sum, ints_among}
use Rattle.world_maker.proofs.tally.bits_of_row.Given as goal

abbrev pub invariant-loop-place : goal.invariant-loop-place
invariant-loop-place l = l.sum ≡ bits_sum (ints_among (take l.place l.kinds) l.row.f)
