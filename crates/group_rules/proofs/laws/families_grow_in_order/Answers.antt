use Rattle.group_rules.proofs.FamilyLemmas.{grows_new, grows_accepted}
use Rattle.group_rules.proofs.laws.families_grow_in_order.Goals as goal

pub returns-clause-new : goal.returns-clause-new
returns-clause-new c = grows_new

pub returns-clause-accepted : goal.returns-clause-accepted
returns-clause-accepted c = grows_accepted
