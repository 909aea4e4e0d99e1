use Rattle.row_lang.proofs.FrameLemmas.{changes_only_its_rows}
use Rattle.row_lang.proofs.meaning_laws.systems_change_only_their_rows.Goals as goal

pub returns : goal.returns
returns c = changes_only_its_rows
