use Rattle.std.proofs.Common.{length, ◌+◌, ◌≤◌}
use Rattle.world_text.specs.Formats.{version_1}
use Rattle.world_text.proofs.ReadingLemmas.{HasRead}
use Rattle.world_text.proofs.reading.read_front.Given as goal

abbrev pub invariant-loop-alloc : goal.invariant-loop-alloc
invariant-loop-alloc l = record {
  read : HasRead version_1 l.bytes l.draft l.lines l.rest;
  few : l.lines + length l.rest ≤ length l.bytes;
}

abbrev pub decreases-loop-alloc : goal.decreases-loop-alloc
decreases-loop-alloc l = length l.rest
