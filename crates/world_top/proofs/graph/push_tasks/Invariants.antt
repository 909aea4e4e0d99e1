use Rattle.std.proofs.Common.{◌≡◌, ◌++◌, take}
use Rattle.world_top.specs.Graphed.{task_lines}
use Rattle.world_top.proofs.GraphLemmas.{IsRest}
use Rattle.world_top.proofs.graph.push_tasks.Given as goal

abbrev pub invariant-loop-number : goal.invariant-loop-number
invariant-loop-number l = (l.out.items ≡ l.fn.out.items ++ task_lines l.edges 0 (take l.number l.systems)) × IsRest l.edges l.number l.rest
