use Rattle.world_top.specs.Running.{IsAfter, effects_of}
use Rattle.world_top.proofs.run.run_ticks.Given as goal

abbrev pub invariant-loop-past : goal.invariant-loop-past
invariant-loop-past l = IsAfter l.fn.registry l.now (effects_of l.systems) l.tick l.past
