use Rattle.world_text.specs.Formats.{version_1}
use Rattle.world_text.proofs.LawfulLemmas.{version_1_is_format}
use Rattle.world_text.proofs.UniqueLemmas.{one_document}
use Rattle.world_text.proofs.laws.one_document.Goals as goal

pub returns : goal.returns
returns c = one_document version_1 version_1_is_format
