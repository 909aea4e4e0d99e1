use Rattle.world_top.proofs.TickedLemmas.{ticked_is_lawful}
use Rattle.world_top.proofs.output_laws.ticks_keep_documents_lawful.Goals as goal

pub returns : goal.returns
returns c = ticked_is_lawful
