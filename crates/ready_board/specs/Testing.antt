-- Words of the tests. No public clause cites this module.
use Rattle.std.specs.Prelude.{◌≡◌, false}
use Rattle.ready_board.specs.Seats.{SeatOnBoard, IsSeatOf, view_of}
use Rattle.ready_board.specs.declared.board.Board.{Board}

-- the seat is one of this board's, isn't spent, and has finished all that it claimed
pub record IsIdle (board : Board) (seat : SeatOnBoard) : Type 0 where
  pub seat_of : IsSeatOf board seat
  pub awake : (view_of seat).is_spent ≡ false
  pub finished : (view_of seat).finished ≡ (view_of seat).mine
