use Rattle.std.proofs.Common.{◌≡◌, take}
use Rattle.std.specs.List.{AllZip}
use Rattle.tick_runner.specs.Turns.{IsOf, found_at}
use Rattle.tick_runner.proofs.turns.writing.write_all.Given as goal

abbrev pub invariant-loop-pool : goal.invariant-loop-pool
invariant-loop-pool g l = record {
  places : l.places.items ≡ found_at l.slots l.needs (take l.pool-index l.list);
  writes : AllZip (IsOf g.F.PoolFact.admits) l.places.items l.lent.writes;
  reads : l.lent.reads ≡ l.initial.lent.reads;
  prefix : l.lent.prefix ≡ l.initial.lent.prefix;
}
