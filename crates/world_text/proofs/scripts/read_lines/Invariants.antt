use Rattle.std.proofs.Common.{◌+◌, ◌≤◌, length}
use Rattle.world_text.specs.Formats.{version_1}
use Rattle.world_text.specs.Scripts.{IsBegun}
use Rattle.world_text.proofs.scripts.read_lines.Given as goal

abbrev pub invariant-loop-lines : goal.invariant-loop-lines
invariant-loop-lines l = record { begun : IsBegun version_1.profile l.decls l.text l.lines.items l.rest; few : length l.lines.items + length l.rest ≤ length l.text }

abbrev pub decreases-loop-lines : goal.decreases-loop-lines
decreases-loop-lines l = length l.rest
