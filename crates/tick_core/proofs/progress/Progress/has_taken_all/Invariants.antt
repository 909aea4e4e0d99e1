use Rattle.std.proofs.Common.{◌≡◌, ℕ, ◌<◌, true, get_or}
use Rattle.std.specs.FinSet as sets
use Rattle.tick_core.specs.declared.turns.Turn.{Turn}
use Rattle.tick_core.specs.Layout.{state_of}
use Rattle.tick_core.proofs.progress.Progress.has_taken_all.Given as goal

abbrev pub invariant-loop-turn : goal.invariant-loop-turn
invariant-loop-turn l = (k : ℕ) (turn : Turn) → k < l.turn-index → sets.contains (state_of l.self).taken (get_or l.self.turns.items k turn).pool ≡ true
