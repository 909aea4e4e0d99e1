use Rattle.std.proofs.Common.{take}
use Rattle.tick_runner.specs.Walking.{ArePrefixesFor}
use Rattle.tick_runner.proofs.preparing.prefixes_for.Given as goal

abbrev pub invariant-loop-system : goal.invariant-loop-system
invariant-loop-system g l = ArePrefixesFor g.S.System.lists l.pools (take l.system-index l.systems) l.prefixes.items
