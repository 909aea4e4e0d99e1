use Rattle.row_lang.proofs.CheckedLemmas.{checked_system}
use Rattle.row_lang.proofs.meaning_laws.systems_are_checked.Goals as goal

pub returns : goal.returns
returns c = checked_system
