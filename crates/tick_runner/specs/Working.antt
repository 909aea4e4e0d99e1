-- What workers have done.
use Rattle.std.specs.Prelude.{◌≡◌, ℕ, ◌≤◌, Bool, true, false, List, [], ◌∷◌, ◌++◌, length, replicate, Some, slice_get}
use Rattle.std.specs.List.{All}
use Rattle.std.specs.Vec.{vec_capacity}
use Rattle.world_model.specs.Frames.{pool_limit}
use Rattle.system_api.specs.Emissions.{Emissions}
use Rattle.ready_board.specs.Seats.{IsSeatOf, SeatOnBoard, view_of}
use Rattle.ready_board.specs.Sets.{IsWithin, Has, first_systems}
use Rattle.ready_board.specs.declared.board.Board.{Board}
use Rattle.ready_board.specs.declared.view.View.{View}
use Rattle.tick_runner.specs.declared.worker.Worker.{Worker}

-- a seat's own systems are all finished, they are just those that have run, and the buffers of these are right
pub record IsWorked (IsRight : ℕ → Emissions → Type 0) (count : ℕ) (view : View) (has_run : List Bool) (buffers : List Emissions) : Type 0 where
  pub flags : length has_run ≡ count
  pub places : length buffers ≡ count
  pub finished : view.finished ≡ view.mine
  pub mine : (system : ℕ) → Has view.mine system → slice_get has_run system ≡ Some true
  pub run : (system : ℕ) → slice_get has_run system ≡ Some true → Has view.mine system
  pub right : (system : ℕ) (buffer : Emissions) → slice_get has_run system ≡ Some true → slice_get buffers system ≡ Some buffer → IsRight system buffer

-- a worker with a seat of the board, between two systems
pub record IsAtWork (IsRight : ℕ → Emissions → Type 0) (count : ℕ) (board : Board) (worker : Worker) : Type 0 where
  pub seat : IsSeatOf board worker.seat
  pub awake : (view_of worker.seat).is_spent ≡ false
  pub list : worker.room.items ≡ []
  pub room : pool_limit ≤ vec_capacity worker.room
  pub worked : IsWorked IsRight count (view_of worker.seat) worker.has_run.items worker.buffers.items

-- a worker that has claimed nothing yet
pub record IsIdle (count : ℕ) (board : Board) (worker : Worker) : Type 0 where
  pub seat : IsSeatOf board worker.seat
  pub awake : (view_of worker.seat).is_spent ≡ false
  pub mine : (view_of worker.seat).mine ≡ 0
  pub finished : (view_of worker.seat).finished ≡ 0
  pub list : worker.room.items ≡ []
  pub room : pool_limit ≤ vec_capacity worker.room
  pub flags : worker.has_run.items ≡ replicate count false
  pub places : length worker.buffers.items ≡ count

-- the seat stays the first or not, with as many others out
pub record KeepsRole (old new : View) : Type 0 where
  pub is_first : new.is_first ≡ old.is_first
  pub out : new.out ≡ old.out

-- a worker saw all systems claimed
pub record HasWorked (IsRight : ℕ → Emissions → Type 0) (count : ℕ) (board : Board) (old new : Worker) : Type 0 where
  pub at_work : IsAtWork IsRight count board new
  pub role : KeepsRole (view_of old.seat) (view_of new.seat)
  pub all : IsWithin (first_systems count) (view_of new.seat).seen_claimed

-- the first seat of a board, before any claim
pub record IsFresh (board : Board) (seat : SeatOnBoard) : Type 0 where
  pub seat_of : IsSeatOf board seat
  pub awake : (view_of seat).is_spent ≡ false
  pub is_first : (view_of seat).is_first ≡ true
  pub mine : (view_of seat).mine ≡ 0
  pub finished : (view_of seat).finished ≡ 0

-- a worker whose seat isn't the first
abbrev pub IsLater : Worker → Type 0
IsLater worker = (view_of worker.seat).is_first ≡ false

-- workers of which each is so, the one with the first seat last
pub record AreLed (Is : Worker → Type 0) (workers : List Worker) : Type 0 where
  pub others : List Worker
  pub first : Worker
  pub all : workers ≡ others ++ first ∷ []
  pub others_are : All Is others
  pub others_later : All IsLater others
  pub first_is : Is first
  pub leads : (view_of first.seat).is_first ≡ true
  pub out : (view_of first.seat).out ≡ length others

-- workers at work, of which the one with the first seat saw all systems claimed
pub record HaveWorked (IsRight : ℕ → Emissions → Type 0) (count : ℕ) (board : Board) (workers : List Worker) : Type 0 where
  pub led : AreLed (IsAtWork IsRight count board) workers
  pub seen : IsWithin (first_systems count) (view_of led.first.seat).seen_claimed
