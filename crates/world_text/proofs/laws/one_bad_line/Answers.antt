use Rattle.world_text.specs.Formats.{version_1}
use Rattle.world_text.proofs.LawfulLemmas.{version_1_is_format}
use Rattle.world_text.proofs.UniqueLemmas.{no_bad_line, one_number}
use Rattle.world_text.proofs.laws.one_bad_line.Goals as goal

pub returns : goal.returns
returns c = record { none = no_bad_line version_1 version_1_is_format; one = one_number version_1 version_1_is_format }
