use Rattle.std.proofs.Common.{◌≡◌, take}
use Rattle.registry.proofs.parts.loading.load_rows.Given as goal

abbrev pub invariant-loop-entry : goal.invariant-loop-entry
invariant-loop-entry g l = record {
  rows : l.storage.pairs ≡ take l.entry-index l.rows;
  spare : l.storage.spare ≡ 0;
  bound : l.storage.index_bound ≡ 0;
}
