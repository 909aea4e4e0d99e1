use Rattle.group_rules.proofs.PoolLemmas.{inner_itself, inner_chain}
use Rattle.group_rules.proofs.laws.inner_groups_nest.Goals as goal

pub returns-clause-itself : goal.returns-clause-itself
returns-clause-itself c = inner_itself

pub returns-clause-chain : goal.returns-clause-chain
returns-clause-chain c = inner_chain
