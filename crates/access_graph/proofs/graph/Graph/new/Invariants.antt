use Rattle.std.proofs.Common.{◌≡◌, length}
use Rattle.access_graph.specs.Building.{IsBuilt}
use Rattle.access_graph.proofs.graph.Graph.new.Given as goal

abbrev pub invariant-loop : goal.invariant-loop
invariant-loop l =
    let b = l.building in
    (length b.preds.items ≡ l.counter) × IsBuilt l.accesses (length b.preds.items) b.preds.items b.reached.items b.waves.items b.edges.items
