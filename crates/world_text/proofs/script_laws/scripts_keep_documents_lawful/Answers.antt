use Rattle.world_text.proofs.ScriptLemmas.{after_is_lawful}
use Rattle.world_text.proofs.script_laws.scripts_keep_documents_lawful.Goals as goal

pub returns : goal.returns
returns c = after_is_lawful
