use Rattle.std.proofs.Common.{◌≡◌, ◌++◌, take, map}
use Rattle.snapshot.specs.Fields.{bytes_of}
use Rattle.snapshot.specs.Packing.{row_field}
use Rattle.snapshot.proofs.packing.push_rows.Given as goal

abbrev pub invariant-loop-entry : goal.invariant-loop-entry
invariant-loop-entry l = l.out.items ≡ l.fn.out.items ++ bytes_of (map (row_field l.decl) (take l.entry-index l.rows))
