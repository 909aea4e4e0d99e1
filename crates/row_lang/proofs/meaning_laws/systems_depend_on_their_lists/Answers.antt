use Rattle.row_lang.proofs.LocalLemmas.{depends_on_its_lists}
use Rattle.row_lang.proofs.meaning_laws.systems_depend_on_their_lists.Goals as goal

pub returns : goal.returns
returns c = depends_on_its_lists
