use Rattle.std.proofs.Common.{◌≡◌, ◌++◌, take, map}
use Rattle.world_text.specs.Formats.{version_1}
use Rattle.world_text.specs.Lines.{text_of}
use Rattle.world_text.specs.Documents.{row_line}
use Rattle.world_text.proofs.printing.push_rows.Given as goal

abbrev pub invariant-loop-entry : goal.invariant-loop-entry
invariant-loop-entry l = l.out.items ≡ l.fn.out.items ++ text_of version_1 (map (row_line version_1.profile l.decl) (take l.entry-index l.rows))
