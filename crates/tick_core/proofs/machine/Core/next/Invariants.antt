use Rattle.std.proofs.Common.{◌<◌, IfSome}
use Rattle.tick_core.specs.declared.step.Step.{Step}
use Rattle.tick_core.specs.Choosing.{Beats}
use Rattle.tick_core.specs.Steps.{CanStep, system_of}
use Rattle.tick_core.proofs.machine.Core.next.Given as goal

abbrev pub invariant-loop-system : goal.invariant-loop-system
invariant-loop-system l = record {
  can : IfSome l.first (CanStep l.self);
  among : (step : Step) → system_of step < l.system → CanStep l.self step → Beats step l.first → ⊥;
}
