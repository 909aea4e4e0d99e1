use Rattle.access_graph.proofs.OrderLemmas.{edge_lost, edge_among}
use Rattle.access_graph.proofs.laws.every_edge_is_needed.Goals as goal

pub returns-clause-lost : goal.returns-clause-lost
returns-clause-lost c = edge_lost

pub returns-clause-among : goal.returns-clause-among
returns-clause-among c = edge_among
