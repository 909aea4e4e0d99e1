use Rattle.std.proofs.Common.{◌≡◌, length, true}
use Rattle.std.specs.List.{All}
use Rattle.ready_board.specs.Seats.{view_of}
use Rattle.ready_board.specs.Sets.{IsWithin, first_systems}
use Rattle.tick_runner.specs.Versions.{IsRightAt}
use Rattle.tick_runner.specs.Working.{IsAtWork, IsLater}
use Rattle.tick_runner.proofs.together.gather.all_buffers.Given as goal

abbrev pub invariant-loop-other : goal.invariant-loop-other
invariant-loop-other g l = record {
  ready : IsAtWork (IsRightAt g.S.System.effect l.fact) (length l.systems) l.board l.first;
  leads : (view_of l.first.seat).is_first ≡ true;
  all : IsWithin (first_systems (length l.systems)) (view_of l.first.seat).seen_claimed;
  others : All (IsAtWork (IsRightAt g.S.System.effect l.fact) (length l.systems) l.board) l.others.items;
  later : All IsLater l.others.items;
  out : (view_of l.first.seat).out ≡ length l.others.items;
}

abbrev pub decreases-loop-other : goal.decreases-loop-other
decreases-loop-other g l = goal.left-loop-other g l
