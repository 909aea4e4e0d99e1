use Rattle.access_graph.proofs.ExistenceLemmas.{have_edges}
use Rattle.access_graph.proofs.laws.systems_have_edges.Goals as goal

pub returns : goal.returns
returns c = have_edges
