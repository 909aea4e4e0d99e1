use Rattle.std.proofs.Common.{◌≡◌, length, take}
use Rattle.system_api.specs.Registers.{numbers}
use Rattle.tick_runner.specs.Putting.{put_back}
use Rattle.tick_runner.proofs.lending.lend_written.Given as goal

abbrev pub invariant-loop-number : goal.invariant-loop-number
invariant-loop-number l = record {
  count : length l.pools.items ≡ length l.initial.pools.items;
  numbers : numbers l.lent.writes ≡ take l.number-index l.list;
  reads : l.lent.reads ≡ l.initial.lent.reads;
  prefix : l.lent.prefix ≡ l.initial.lent.prefix;
  back : put_back l.lent.writes l.pools.items ≡ l.initial.pools.items;
}
