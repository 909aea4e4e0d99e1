use Rattle.std.proofs.Common.{◌≡◌, ◌++◌, take, map}
use Rattle.world_text.specs.LineKinds as line
use Rattle.world_text.specs.Formats.{version_1}
use Rattle.world_text.specs.Lines.{text_of}
use Rattle.world_text.proofs.printing.push_decls.Given as goal

abbrev pub invariant-loop-decl : goal.invariant-loop-decl
invariant-loop-decl l = l.out.items ≡ l.fn.out.items ++ text_of version_1 (map line.Component (take l.decl-index l.decls))
