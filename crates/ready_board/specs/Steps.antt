-- What each step on a word tells the seat that takes it.
use Rattle.std.specs.Prelude.{◌≡◌, ℕ}
use Rattle.atomic_table.specs.Table.{Me, Step}
use Rattle.ready_board.specs.Sets.{IsWithin}
use Rattle.ready_board.specs.Views.{after_claimed_load, after_done_load, after_claim, after_done}
use Rattle.ready_board.specs.declared.view.View.{View}

-- a seat as a step sees it
abbrev pub Seated : Type 0
Seated = Me (Unit {0}) View

-- what the seat knows
abbrev pub known : Seated → View
known seat = seat.0

-- the seat knows this now, and its slots are those that it had
pub record Learns (old : Seated) (told : View) (new : Seated) : Type 0 where
  pub view : known new ≡ told
  pub slots : new.1 ≡ old.1

-- a load of the claimed word
abbrev pub LoadsClaimed : Step (Unit {0}) → Seated → ℕ → Seated → Type 0
LoadsClaimed step old found new = Learns old (after_claimed_load (known old) found) new

-- a load of the done word
abbrev pub LoadsDone : Step (Unit {0}) → Seated → ℕ → Seated → Type 0
LoadsDone step old found new = Learns old (after_done_load (known old) found) new

-- a claim: all that was the seat's own, and all that it had seen claimed, was claimed
pub record Claims (step : Step (Unit {0})) (old : Seated) (found : ℕ) (new : Seated) : Type 0 where
  pub learns : Learns old (after_claim (known old) step.first found) new
  pub mine : IsWithin (known old).mine found
  pub seen : IsWithin (known old).seen_claimed found

-- a system is said to be done
abbrev pub Finishes : Step (Unit {0}) → Seated → ℕ → Seated → Type 0
Finishes step old found new = Learns old (after_done (known old) step.first) new

-- a load of the claimed word by the first seat with no other out: all that it saw claimed is its own
pub record LoadsLast (step : Step (Unit {0})) (old : Seated) (found : ℕ) (new : Seated) : Type 0 where
  pub learns : Learns old (after_claimed_load (known old) found) new
  pub mine : IsWithin (known old).seen_claimed (known old).mine

-- a load of the done word by the first seat with no other out: just what it finished is done
pub record LoadsLastDone (step : Step (Unit {0})) (old : Seated) (found : ℕ) (new : Seated) : Type 0 where
  pub learns : Learns old (after_done_load (known old) found) new
  pub finished : IsWithin found (known old).finished
  pub done : IsWithin (known old).finished found
