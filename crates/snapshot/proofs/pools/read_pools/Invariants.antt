use Rattle.std.proofs.Common.{◌≡◌, length}
use Rattle.snapshot.specs.Reading.{IsAtRest}
use Rattle.snapshot.proofs.pools.read_pools.Given as goal

abbrev pub invariant-loop-number : goal.invariant-loop-number
invariant-loop-number l = record {
  rest : IsAtRest l.bytes l.to l.draft;
  pools : length l.draft.pools.items ≡ l.number;
  decls : l.draft.decls.items ≡ l.fn.draft.decls.items;
  slots : l.draft.slots.items ≡ l.fn.draft.slots.items;
}
