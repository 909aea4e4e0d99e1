use Rattle.std.proofs.Common.{ℕ, ◌<◌}
use Rattle.ready_board.specs.Sets.{Has, preds_of}
use Rattle.ready_board.proofs.sets.are_lower.Given as goal

abbrev pub invariant-loop-system : goal.invariant-loop-system
invariant-loop-system l = (system earlier : ℕ) → system < l.system → Has (preds_of l.preds system) earlier → earlier < system
