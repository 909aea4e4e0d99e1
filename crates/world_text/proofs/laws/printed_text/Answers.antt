use Rattle.world_text.proofs.PrintedLemmas.{printed_is_document}
use Rattle.world_text.proofs.laws.printed_text.Goals as goal

pub returns : goal.returns
returns c = printed_is_document
