use Rattle.access_graph.proofs.GraphLemmas.{one_edge_list, one_graph}
use Rattle.access_graph.proofs.OrderLemmas.{one_wave}
use Rattle.access_graph.proofs.laws.graphs_are_unique.Goals as goal

pub returns-clause-graph : goal.returns-clause-graph
returns-clause-graph c = one_graph

pub returns-clause-edges : goal.returns-clause-edges
returns-clause-edges c = one_edge_list

pub returns-clause-waves : goal.returns-clause-waves
returns-clause-waves c = one_wave
