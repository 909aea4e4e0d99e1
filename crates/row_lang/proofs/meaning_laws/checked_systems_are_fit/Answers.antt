use Rattle.row_lang.proofs.FitLemmas.{is_fit}
use Rattle.row_lang.proofs.meaning_laws.checked_systems_are_fit.Goals as goal

pub returns : goal.returns
returns c = is_fit
