use Rattle.row_lang.proofs.KeepsLemmas.{fit_keeps_lawful}
use Rattle.row_lang.proofs.meaning_laws.fit_systems_keep_worlds_lawful.Goals as goal

pub returns : goal.returns
returns c = fit_keeps_lawful
