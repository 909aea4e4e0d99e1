use Rattle.std.proofs.Common.{◌≡◌, take}
use Rattle.std.specs.Prelude.{IsTrue, is_some}
use Rattle.std.specs.List.{AllByRecursion}
use Rattle.tick_runner.specs.Turns.{found_at}
use Rattle.tick_runner.proofs.turns.reading.read_all.Given as goal

abbrev pub invariant-loop-pool : goal.invariant-loop-pool
invariant-loop-pool g l = record {
  found : l.turns.items ≡ found_at l.slots l.needs (take l.pool-index l.pools);
  there : AllByRecursion (λ turn. IsTrue (is_some turn)) l.turns.items;
}
