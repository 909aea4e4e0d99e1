use Rattle.world_top.specs.Running.{IsAfter, effects_of}
use Rattle.world_top.proofs.sharing.run_ticks_by.Given as goal

abbrev pub invariant-loop-past : goal.invariant-loop-past
invariant-loop-past g l = IsAfter l.fn.registry l.now (effects_of l.systems) l.tick l.past
