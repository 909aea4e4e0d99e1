use Rattle.access_graph.proofs.BuildingLemmas.{built_none}
use Rattle.access_graph.proofs.building.Building.new.Goals as goal

pub returns : goal.returns
returns c = record {
  built = λ systems. rw (c.new.ensures.items, c.new-2.ensures.items, c.new-3.ensures.items, c.new-4.ensures.items) (built_none systems);
}
