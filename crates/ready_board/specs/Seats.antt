-- What a contract sees of a board and of its seats.
use Rattle.std.specs.Prelude.{◌≡◌, ℕ, List, []}
use Rattle.atomic_table.specs.declared.shared.Seat.{Seat}
use Rattle.ready_board.specs.Steps.{known}
use Rattle.ready_board.specs.declared.board.Board.{Board}
use Rattle.ready_board.specs.declared.view.View.{View}

-- a `BoardSeat`, since antt has no name for an alias
abbrev pub SeatOnBoard : Type 0
SeatOnBoard = Seat (Unit {0}) View

-- what the seat knows
abbrev pub view_of : SeatOnBoard → View
view_of seat = known seat.me

-- the predecessors of each system, with which the board was made
abbrev pub preds_in : Board → List ℕ
preds_in board = board.preds.items

-- the seat is one of this board's
pub record IsSeatOf (board : Board) (seat : SeatOnBoard) : Type 0 where
  pub table : seat.table_id ≡ board.table.shared.table_id
  -- a board has no slots, so no seat has one
  pub slots : seat.me.1 ≡ []
