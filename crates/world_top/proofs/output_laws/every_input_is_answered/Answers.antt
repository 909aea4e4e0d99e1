use Rattle.world_top.proofs.LawLemmas.{answered}
use Rattle.world_top.proofs.output_laws.every_input_is_answered.Goals as goal

pub returns : goal.returns
returns c = answered
