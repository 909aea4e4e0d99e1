use Rattle.tick_core.proofs.KeepLemmas.{start_has, step_keeps}
use Rattle.tick_core.proofs.laws.steps_keep_the_facts.Goals as goal

pub returns-clause-first : goal.returns-clause-first
returns-clause-first c = start_has

pub returns-clause-next : goal.returns-clause-next
returns-clause-next c = step_keeps
