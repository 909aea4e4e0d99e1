use Rattle.std.proofs.Common.{◌≡◌, ◌+◌, ◌++◌, ℕ, List, Option, map, take, length}
use Rattle.std.specs.List.{AllZip}
use Rattle.pool_slots.specs.Turns.{Turn}
use Rattle.tick_runner.specs.Turns.{IsOf}
use Rattle.tick_runner.proofs.turns.reading.lend_list.Given as goal

abbrev pub invariant-loop-pool : goal.invariant-loop-pool
invariant-loop-pool g l = record {
  reads : (found : ℕ → Option (Turn _)) (lists : List ℕ) → l.turns ≡ map found l.pools → AllZip (IsOf g.F.PoolFact.admits) (map found lists) l.initial.lent.reads
      → AllZip (IsOf g.F.PoolFact.admits) (map found (lists ++ take l.pool-index l.list)) l.lent.reads;
  count : length l.lent.reads ≡ length l.initial.lent.reads + l.pool-index;
  writes : l.lent.writes ≡ l.initial.lent.writes;
  prefix : l.lent.prefix ≡ l.initial.lent.prefix;
}
