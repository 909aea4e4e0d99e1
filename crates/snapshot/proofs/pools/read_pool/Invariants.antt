use Rattle.std.proofs.Common.{◌≡◌, ◌+◌, ◌-◌, length}
use Rattle.snapshot.specs.Reading.{RowsDue}
use Rattle.snapshot.proofs.pools.read_pool.Given as goal

abbrev pub invariant-loop : goal.invariant-loop
invariant-loop l = record {
  due : RowsDue l.bytes l.to l.draft (l.count - l.counter);
  pools : length l.draft.pools.items ≡ l.number + 1;
  decls : l.draft.decls.items ≡ l.fn.draft.decls.items;
  slots : l.draft.slots.items ≡ l.fn.draft.slots.items;
}
