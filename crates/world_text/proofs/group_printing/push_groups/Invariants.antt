use Rattle.std.proofs.Common.{◌≡◌, ◌++◌, take, map}
use Rattle.world_text.specs.Formats.{version_1}
use Rattle.world_text.specs.Lines.{text_of}
use Rattle.world_text.specs.Documents.{group_line}
use Rattle.world_text.proofs.group_printing.push_groups.Given as goal

abbrev pub invariant-loop-group : goal.invariant-loop-group
invariant-loop-group l = l.out.items ≡ l.fn.out.items ++ text_of version_1 (map (group_line l.decls) (take l.group-index l.groups))
