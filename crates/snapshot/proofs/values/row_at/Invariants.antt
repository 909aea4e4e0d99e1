use Rattle.std.proofs.Common.{◌≤◌, length}
use Rattle.snapshot.proofs.RowBytesLemmas.{AreRead}
use Rattle.snapshot.proofs.values.row_at.Given as goal

abbrev pub invariant-loop-place : goal.invariant-loop-place
invariant-loop-place l = record {
  read : AreRead l.kinds l.bytes l.at l.place l.row.f l.to;
  within : l.to ≤ length l.bytes;
}
