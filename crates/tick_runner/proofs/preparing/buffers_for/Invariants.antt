use Rattle.std.proofs.Common.{take}
use Rattle.tick_runner.specs.Running.{AreReady}
use Rattle.tick_runner.proofs.preparing.buffers_for.Given as goal

abbrev pub invariant-loop-system : goal.invariant-loop-system
invariant-loop-system g l = AreReady g.S.System.limit (take l.system-index l.systems) l.sizes l.buffers.items
