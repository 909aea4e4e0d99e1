use Rattle.std.proofs.Common.{◌+◌, ◌≤◌, length}
use Rattle.world_top.specs.Playing.{IsPlayedTo}
use Rattle.world_top.proofs.playing.play_lines.Given as goal

abbrev pub invariant-loop-line : goal.invariant-loop-line
invariant-loop-line g l = record {
  played : IsPlayedTo l.fn.registry l.registry l.watches.items l.fn.out.items l.out.items l.fn.decls l.fn.text l.lines l.rest;
  within : l.lines + length l.rest ≤ length l.fn.text;
}

abbrev pub decreases-loop-line : goal.decreases-loop-line
decreases-loop-line g l = length l.rest
