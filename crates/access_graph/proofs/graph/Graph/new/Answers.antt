use Rattle.std.proofs.Common.{◌≡◌, ℕ, length, subst, arith}
use Rattle.access_graph.specs.Building.{IsBuilt}
use Rattle.access_graph.proofs.GraphLemmas.{graph_from_built}
use Rattle.access_graph.proofs.graph.Graph.new.Goals as goal

pub returns : goal.returns
returns c =
    let systems = c.args.accesses.now in
    let b = c.loop.building in
    let all : length b.preds.items ≡ length systems = let built = c.loop.invariant.1.within in omega arith in
    graph_from_built systems b.preds.items b.reached.items b.waves.items b.edges.items
    (subst (λ (n : ℕ). IsBuilt systems n b.preds.items b.reached.items b.waves.items b.edges.items) all c.loop.invariant.1)
