use Rattle.world_text.proofs.OneScriptLemmas.{one_scripted, no_bad_scripted, one_bad_scripted}
use Rattle.world_text.proofs.script_laws.one_script.Goals as goal

pub returns : goal.returns
returns c = record { one = one_scripted; none = no_bad_scripted; one_bad = one_bad_scripted }
