-- How the first step is found: one after another is looked at. No public clause cites this module.
use Rattle.std.specs.Prelude.{◌≡◌, ℕ, ◌⊎◌, Option, Some, None, IfSome}
use Rattle.tick_core.specs.declared.step.Step.{Step}
use Rattle.tick_core.specs.declared.step.Step.TheVariants.{Take, Leave, Put}
use Rattle.tick_core.specs.States.{CoreState}
use Rattle.tick_core.specs.Steps.{CanStep, StandsBefore}

-- a step stands before the first one so far, or there is none so far
abbrev pub Beats : Step → Option Step → Type 0
Beats step None = Unit {0}
Beats step (Some first) = StandsBefore step first

-- some steps were looked at: the first one so far can be taken, nothing stands before it that didn't before, and none of those does that
-- can be taken
pub record Improves (state : CoreState) (Among : Step → Type 0) (old new : Option Step) : Type 0 where
  pub can : IfSome old (CanStep state) → IfSome new (CanStep state)
  pub kept : (step : Step) → Beats step new → Beats step old
  pub among : (step : Step) → Among step → CanStep state step → Beats step new → ⊥

-- a step takes a pool or gives it back
abbrev pub IsTurnAt : ℕ → ℕ → Step → Type 0
IsTurnAt i pool step = (step ≡ Take i pool) ⊎ ((step ≡ Leave i pool) ⊎ (step ≡ Put i pool))
