use Rattle.std.proofs.Common.{◌≡◌, ◌++◌, take}
use Rattle.std.specs.List.{flat_map}
use Rattle.world_text.specs.Formats.{version_1}
use Rattle.world_text.specs.Lines.{text_of}
use Rattle.world_text.specs.Documents.{system_lines}
use Rattle.world_text.proofs.printing.push_systems.Given as goal

abbrev pub invariant-loop-system : goal.invariant-loop-system
invariant-loop-system l = l.out.items ≡ l.fn.out.items ++ text_of version_1 (flat_map (system_lines l.decls) (take l.system-index l.systems))
