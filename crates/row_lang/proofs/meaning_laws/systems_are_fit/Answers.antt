use Rattle.row_lang.proofs.CheckedLemmas.{fit_system}
use Rattle.row_lang.proofs.meaning_laws.systems_are_fit.Goals as goal

pub returns : goal.returns
returns c = fit_system
