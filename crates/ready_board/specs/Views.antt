-- How what a seat knows changes.
use Rattle.std.specs.Prelude.{ℕ, ◌+◌, ◌-◌, ◌==◌, true, false, bit_or, if◌then◌else◌}
use Rattle.ready_board.specs.declared.view.View.{View}

-- the first seat of a board, which knows nothing yet
abbrev pub blank : View
blank = record { seen_claimed = 0; seen_done = 0; claimed_loads = 0; done_loads = 0; steps = 0; mine = 0; finished = 0; is_first = true; out = 0; is_spent = false }

-- the view after a load of the claimed word, which found this
abbrev pub after_claimed_load : View → ℕ → View
after_claimed_load view found = record view { seen_claimed = found; claimed_loads = view.claimed_loads + 1; steps = view.steps + 1 }

-- the view after a load of the done word, which found this
abbrev pub after_done_load : View → ℕ → View
after_done_load view found = record view { seen_done = found; done_loads = view.done_loads + 1; steps = view.steps + 1 }

-- the view after a step that puts a set among the claimed systems, which it found like this: what it found and what it put there are seen, and what wasn't there is the seat's own
abbrev pub after_claim : View → ℕ → ℕ → View
after_claim view set found = record view { seen_claimed = bit_or found set; steps = view.steps + 1; mine = (if bit_or found set == found then view.mine else bit_or view.mine set) }

-- the view after a step that puts a set among the done systems
abbrev pub after_done : View → ℕ → View
after_done view set = record view { finished = bit_or view.finished set; steps = view.steps + 1 }

-- the first seat once one more is out
abbrev pub after_split : View → View
after_split view = record view { out = view.out + 1 }

-- a new seat, which has seen what the first one saw; it has no system and took no step
abbrev pub newcomer : View → View
newcomer view = record blank { seen_claimed = view.seen_claimed; seen_done = view.seen_done; is_first = false }

-- the first seat once it has taken another in: it has seen, claimed and finished what either had
abbrev pub after_join : View → View → View
after_join view other = record view { seen_claimed = bit_or view.seen_claimed other.seen_claimed; seen_done = bit_or view.seen_done other.seen_done; mine = bit_or view.mine other.mine; finished = bit_or view.finished other.finished; out = view.out - 1 }

-- a seat that was taken in
abbrev pub spent_view : View
spent_view = record blank { is_first = false; is_spent = true }
