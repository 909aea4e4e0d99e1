use Rattle.access_graph.proofs.OrderLemmas.{reached_by_edges, edges_reach, top_waits_for_none}
use Rattle.access_graph.proofs.laws.edges_keep_the_order.Goals as goal

pub returns-clause-top : goal.returns-clause-top
returns-clause-top c = top_waits_for_none

pub returns-clause-reached : goal.returns-clause-reached
returns-clause-reached c = λ systems i j. (reached_by_edges systems i j, edges_reach systems i j)
