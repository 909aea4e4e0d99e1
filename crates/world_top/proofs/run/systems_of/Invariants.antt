use Rattle.std.proofs.Common.{take}
use Rattle.world_top.specs.Running.{AreReady}
use Rattle.world_top.proofs.run.systems_of.Given as goal

abbrev pub invariant-loop-def : goal.invariant-loop-def
invariant-loop-def l = AreReady l.profile (take l.def-index l.defs) l.systems.items
