use Rattle.std.proofs.Common.{◌≡◌, ◌⊎◌, ℕ, ◌<◌, get_or}
use Rattle.tick_core.specs.declared.step.Step.{Step}
use Rattle.tick_core.specs.declared.step.Step.TheVariants.{Claim, Finish}
use Rattle.tick_core.specs.Layout.{fresh}
use Rattle.tick_core.specs.Choosing.{Beats, Improves, IsTurnAt}
use Rattle.tick_core.specs.Steps.{CanStep}
use Rattle.tick_core.proofs.machine.Core.first_with.Given as goal

abbrev pub invariant-loop-turn : goal.invariant-loop-turn
invariant-loop-turn l = record {
  ends : Improves l.self (λ step. (step ≡ Claim l.system) ⊎ (step ≡ Finish l.system)) l.fn.first l.first;
  seen : (k : ℕ) → k < l.turn-index → (step : Step) → IsTurnAt l.system (get_or l.turn-items k (fresh 0)).pool step → CanStep l.self step → Beats step l.first → ⊥;
}
