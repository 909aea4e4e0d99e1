use Rattle.access_graph.proofs.SystemLemmas.{systems_of-zero}
use Rattle.access_graph.proofs.systems.Systems.empty.Goals as goal

pub returns : goal.returns
returns c = systems_of-zero
