use Rattle.row_lang.proofs.NameLemmas.{called_in}
use Rattle.world_text.proofs.script_laws.names_tell_components.Goals as goal

pub returns : goal.returns
returns c = called_in
