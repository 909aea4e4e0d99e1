use Rattle.std.proofs.Common.{◌≡◌, ℕ, ◌<◌, true}
use Rattle.tick_core.specs.States.{are_conflicting, is_done}
use Rattle.tick_core.proofs.machine.Core.are_earlier_done.Given as goal

abbrev pub invariant-loop-earlier : goal.invariant-loop-earlier
invariant-loop-earlier l = (k : ℕ) → k < l.earlier → are_conflicting l.self k l.system ≡ true → is_done l.self k ≡ true
