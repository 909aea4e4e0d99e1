-- Schedules: lists of steps, each of which can be taken where it stands. They may run the systems in any order that the steps allow.
use Rattle.std.specs.Prelude.{ℕ, ◌<◌, Bool, false, ◌==◌, List, [], ◌∷◌, length, IsTrue}
use Rattle.tick_core.specs.declared.step.Step.{Step}
use Rattle.tick_core.specs.declared.step.Step.TheVariants.{Claim, Take, Leave, Put, Finish}
use Rattle.tick_core.specs.States.{CoreState, is_done}
use Rattle.tick_core.specs.Steps.{CanStep, after}

-- each step can be taken in the state that those before it leave
abbrev pub IsSchedule : CoreState → List Step → Type 0
IsSchedule state [] = Unit {0}
IsSchedule state (step ∷ steps) = CanStep state step × IsSchedule (after state step) steps

-- the state after some steps
abbrev pub after_all : CoreState → List Step → CoreState
after_all state [] = state
after_all state (step ∷ steps) = after_all (after state step) steps

-- all systems are done
abbrev pub IsFinished : CoreState → Type 0
IsFinished state = (i : ℕ) → i < length state.systems → IsTrue (is_done state i)

-- whether a step claims a system
abbrev pub is_claim_of : ℕ → Step → Bool
is_claim_of i (Claim j) = j == i
is_claim_of i (Take j pool) = false
is_claim_of i (Leave j pool) = false
is_claim_of i (Put j pool) = false
is_claim_of i (Finish j) = false
