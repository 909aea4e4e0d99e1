use Rattle.tick_core.proofs.ScheduleLemmas.{reached}
use Rattle.tick_core.proofs.laws.reached_states_have_the_facts.Goals as goal

pub returns : goal.returns
returns c = reached
