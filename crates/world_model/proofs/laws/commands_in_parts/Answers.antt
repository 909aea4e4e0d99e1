use Rattle.world_model.proofs.StepLemmas.{run-append_world, run-append_replies, run-append_events}
use Rattle.world_model.proofs.laws.commands_in_parts.Goals as goal

pub returns-clause-world : goal.returns-clause-world
returns-clause-world c = run-append_world

pub returns-clause-replies : goal.returns-clause-replies
returns-clause-replies c = run-append_replies

pub returns-clause-events : goal.returns-clause-events
returns-clause-events c = run-append_events
