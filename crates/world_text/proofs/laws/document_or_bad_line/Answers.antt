use Rattle.world_text.specs.Formats.{version_1}
use Rattle.world_text.proofs.CompleteLemmas.{document_or_bad}
use Rattle.world_text.proofs.laws.document_or_bad_line.Goals as goal

pub returns : goal.returns
returns c = document_or_bad version_1
