use Rattle.world_text.specs.Documents.{text}
use Rattle.world_text.specs.Formats.{version_1}
use Rattle.world_text.proofs.LawfulLemmas.{version_1_is_format}
use Rattle.world_text.proofs.PrintedLemmas.{printed_is_document}
use Rattle.world_text.proofs.UniqueLemmas.{one_document, no_bad_line}
use Rattle.world_text.proofs.laws.printed_text_is_read_back.Goals as goal

pub returns : goal.returns
returns c = record {
  same = λ document other lawful is. one_document version_1 version_1_is_format (text document) other document is (printed_is_document document lawful);
  none = λ document number lawful bad. no_bad_line version_1 version_1_is_format (text document) document number (printed_is_document document lawful) bad;
}
