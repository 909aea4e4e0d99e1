use Rattle.tick_core.proofs.FactLemmas.{can_step}
use Rattle.tick_core.proofs.laws.a_step_can_always_be_taken.Goals as goal

pub returns : goal.returns
returns c = λ state facts. can_step state
