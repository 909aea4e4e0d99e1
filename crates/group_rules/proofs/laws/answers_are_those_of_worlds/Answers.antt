use Rattle.group_rules.proofs.WorldLemmas.{refusals_agree, outcomes_agree}
use Rattle.group_rules.proofs.laws.answers_are_those_of_worlds.Goals as goal

pub returns-clause-refusals : goal.returns-clause-refusals
returns-clause-refusals c = refusals_agree

pub returns-clause-outcomes : goal.returns-clause-outcomes
returns-clause-outcomes c = outcomes_agree
