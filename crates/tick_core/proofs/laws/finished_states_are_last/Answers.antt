use Rattle.tick_core.proofs.FactLemmas.{last_versions}
use Rattle.tick_core.proofs.laws.finished_states_are_last.Goals as goal

pub returns-clause-versions : goal.returns-clause-versions
returns-clause-versions c = last_versions
