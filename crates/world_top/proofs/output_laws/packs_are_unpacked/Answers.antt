use Rattle.world_top.proofs.PackLemmas.{packed_is_unpacked}
use Rattle.world_top.proofs.output_laws.packs_are_unpacked.Goals as goal

pub returns : goal.returns
returns c = packed_is_unpacked
