use Rattle.std.proofs.Common.{◌-◌, ◌*◌, ◌%◌, ◌^◌, w64, bit_and}
use Rattle.std.specs.Int.{leading_zeros}
use Rattle.group_engine.proofs.PlaceLemmas.{IsPastLast, past_last_at}
use Rattle.group_engine.proofs.places.past_last.Goals as goal

pub returns-clause-falls : goal.returns-clause-falls
returns-clause-falls c =
    let h : IsPastLast c.args.mask c.args.end (64 - leading_zeros w64 (bit_and c.from.result (1 * 2 ^ c.args.end % 2 ^ 64 - 1))) =
    past_last_at c.args.mask c.from.result c.args.end c.requires c.ranges.mask.fits c.from.ensures in
    h.falls

pub returns-clause-set : goal.returns-clause-set
returns-clause-set c =
    let h : IsPastLast c.args.mask c.args.end (64 - leading_zeros w64 (bit_and c.from.result (1 * 2 ^ c.args.end % 2 ^ 64 - 1))) =
    past_last_at c.args.mask c.from.result c.args.end c.requires c.ranges.mask.fits c.from.ensures in
    h.set

pub returns-clause-clear : goal.returns-clause-clear
returns-clause-clear c =
    let h : IsPastLast c.args.mask c.args.end (64 - leading_zeros w64 (bit_and c.from.result (1 * 2 ^ c.args.end % 2 ^ 64 - 1))) =
    past_last_at c.args.mask c.from.result c.args.end c.requires c.ranges.mask.fits c.from.ensures in
    h.clear
