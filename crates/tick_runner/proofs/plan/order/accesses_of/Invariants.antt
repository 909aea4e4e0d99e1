use Rattle.std.proofs.Common.{◌≡◌, map, take}
use Rattle.tick_runner.proofs.plan.order.accesses_of.Given as goal

abbrev pub invariant-loop-system : goal.invariant-loop-system
invariant-loop-system g l = l.accesses ≡ map g.S.System.lists (take l.system-index l.systems)
