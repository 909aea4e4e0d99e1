use Rattle.world_text.specs.Formats.{version_1}
use Rattle.world_text.proofs.LawfulLemmas.{document_is_lawful, version_1_is_format}
use Rattle.world_text.proofs.laws.documents_are_lawful.Goals as goal

pub returns : goal.returns
returns c = λ bytes document is_document. document_is_lawful version_1 bytes document version_1_is_format is_document
