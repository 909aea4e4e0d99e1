use Rattle.std.proofs.Common.{map, take}
use Rattle.tick_runner.specs.Running.{orders_in}
use Rattle.tick_runner.specs.Ticking.{CarriesOut}
use Rattle.tick_runner.proofs.applying.apply_counted.Given as goal

abbrev pub invariant-loop-buffer : goal.invariant-loop-buffer
invariant-loop-buffer g l = CarriesOut l.initial.registry l.registry (map orders_in (take l.buffer-index l.buffers))
