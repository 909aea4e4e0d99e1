use Rattle.registry.proofs.RepackLemmas.{repacked}
use Rattle.registry.proofs.laws.packing_without_groups.Goals as goal

pub returns : goal.returns
returns c = repacked
