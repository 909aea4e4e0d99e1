use Rattle.std.proofs.Common.{length}
use Rattle.ready_board.specs.Seats.{view_of}
use Rattle.tick_runner.specs.Versions.{IsRightAt}
use Rattle.tick_runner.specs.Working.{IsAtWork, KeepsRole}
use Rattle.tick_runner.proofs.worker.work.Given as goal

abbrev pub invariant-turns : goal.invariant-turns
invariant-turns g l = record {
  at_work : IsAtWork (IsRightAt g.S.System.effect l.fact) (length l.systems) l.plan.board l.worker;
  role : KeepsRole (view_of l.fn.worker.seat) (view_of l.worker.seat);
}
