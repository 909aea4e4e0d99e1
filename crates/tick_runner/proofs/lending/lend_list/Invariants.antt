use Rattle.std.proofs.Common.{◌≡◌, ◌++◌, take}
use Rattle.std.specs.List.{AllByRecursion}
use Rattle.system_api.specs.Registers.{numbers}
use Rattle.tick_runner.specs.Putting.{IsPoolOf}
use Rattle.tick_runner.proofs.lending.lend_list.Given as goal

abbrev pub invariant-loop-number : goal.invariant-loop-number
invariant-loop-number l = record {
  numbers : numbers l.lent.reads ≡ numbers l.initial.lent.reads ++ take l.number-index l.list;
  reads : AllByRecursion (IsPoolOf l.pools) l.lent.reads;
  writes : l.lent.writes ≡ l.initial.lent.writes;
  prefix : l.lent.prefix ≡ l.initial.lent.prefix;
}
