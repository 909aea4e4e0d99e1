use Rattle.std.proofs.Common.{◌≡◌, take}
use Rattle.world_top.specs.Graphed.{accesses_of}
use Rattle.world_top.proofs.graph.copy_accesses.Given as goal

abbrev pub invariant-loop-system : goal.invariant-loop-system
invariant-loop-system l = l.accesses.items ≡ accesses_of (take l.system-index l.systems)
