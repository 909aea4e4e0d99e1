use Rattle.std.proofs.Common.{◌≡◌, ◌-◌, ◌+◌, ◌≤◌, vec_len}
use Rattle.std.specs.Io.KnownBytes.{Consumes}
use Rattle.ecs_io.proofs.whole.read_in_pieces.Given as goal

abbrev pub invariant-loop-out : goal.invariant-loop-out
invariant-loop-out g l = record {
  within : vec_len l.out ≤ l.limit + 1;
  buffer : vec_len l.buf ≡ l.piece;
  taken : Consumes (g.S.Source.left l.fn.source) (g.S.Source.left l.source) l.out.items;
  later : g.S.Source.faults l.fn.source ≤ g.S.Source.faults l.source;
}

abbrev pub decreases-loop-out : goal.decreases-loop-out
decreases-loop-out g l = (l.limit + 1) - vec_len l.out
