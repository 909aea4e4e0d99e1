use Rattle.std.proofs.Common.{◌≡◌, ℕ, ◌<◌, get_or}
use Rattle.tick_core.specs.declared.turns.Turn.{Turn}
use Rattle.tick_core.proofs.turns.place_of.Given as goal

abbrev pub invariant-loop-at : goal.invariant-loop-at
invariant-loop-at l = (k : ℕ) (turn : Turn) → k < l.at → (get_or l.turns k turn).pool ≡ l.pool → ⊥
