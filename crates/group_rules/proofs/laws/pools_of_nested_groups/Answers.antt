use Rattle.world_model.proofs.NestedLemmas.{inner_parts}
use Rattle.group_rules.proofs.PoolLemmas.{included, apart_pools}
use Rattle.group_rules.proofs.laws.pools_of_nested_groups.Goals as goal

pub returns-clause-apart : goal.returns-clause-apart
returns-clause-apart c = apart_pools

pub returns-clause-own : goal.returns-clause-own
returns-clause-own c = λ inner outer pool within. included inner.own outer.own (inner_parts inner outer within).own pool

pub returns-clause-get : goal.returns-clause-get
returns-clause-get c = λ inner outer pool within. included inner.get outer.get (inner_parts inner outer within).get pool

pub returns-clause-without : goal.returns-clause-without
returns-clause-without c = λ inner outer pool within. included inner.without outer.without (inner_parts inner outer within).without pool
