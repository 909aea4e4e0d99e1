use Rattle.world_text.specs.Formats.{version_1}
use Rattle.world_text.proofs.CompleteLemmas.{script_or_bad, scripted_or_bad}
use Rattle.world_text.proofs.script_laws.script_or_bad_line.Goals as goal

pub returns : goal.returns
returns c = record { alone = script_or_bad version_1.profile; behind = scripted_or_bad }
