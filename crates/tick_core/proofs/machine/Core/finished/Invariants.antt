use Rattle.std.proofs.Common.{◌≡◌, ℕ, ◌<◌, true}
use Rattle.tick_core.specs.States.{is_done}
use Rattle.tick_core.proofs.machine.Core.finished.Given as goal

abbrev pub invariant-loop-system : goal.invariant-loop-system
invariant-loop-system l = (k : ℕ) → k < l.system → is_done l.self k ≡ true
