use Rattle.system_api.proofs.SettledLemmas.{settled-once, one-list}
use Rattle.system_api.proofs.laws.lists_settle_in_one_way.Goals as goal

pub returns-clause-settled : goal.returns-clause-settled
returns-clause-settled g c = λ number old a b. settled-once number old a b

pub returns-clause-told : goal.returns-clause-told
returns-clause-told g c = λ number a b. one-list number a b
