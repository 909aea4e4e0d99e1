use Rattle.std.proofs.Common.{◌≡◌, ◌++◌, ◌≤◌, ◌-◌}
use Rattle.access_graph.specs.Building.{IsWaveAfter, edges_from}
use Rattle.access_graph.proofs.steps.add_edges.Given as goal

abbrev pub invariant-loop-from : goal.invariant-loop-from
invariant-loop-from l = record {
  within : l.next ≤ l.to;
  listed : l.edges.items ≡ l.initial.edges.items ++ edges_from l.sources l.to l.next;
  wave : IsWaveAfter l.sources l.waves l.next l.wave;
  low : l.wave ≤ l.next;
}

abbrev pub decreases-loop-from : goal.decreases-loop-from
decreases-loop-from l = l.to - l.next
