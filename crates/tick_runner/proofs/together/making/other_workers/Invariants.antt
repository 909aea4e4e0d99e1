use Rattle.std.proofs.Common.{◌≡◌, ◌+◌, length}
use Rattle.std.specs.List.{All}
use Rattle.ready_board.specs.Seats.{view_of}
use Rattle.tick_runner.specs.Working.{IsFresh, IsIdle, IsLater}
use Rattle.tick_runner.proofs.together.making.other_workers.Given as goal

abbrev pub invariant-loop-k : goal.invariant-loop-k
invariant-loop-k l = record {
  fresh : IsFresh l.board l.seat;
  out : (view_of l.seat).out ≡ (view_of l.fn.seat).out + l._k;
  count : length l.others.items ≡ l._k;
  idle : All (IsIdle l.systems l.board) l.others.items;
  later : All IsLater l.others.items;
}
