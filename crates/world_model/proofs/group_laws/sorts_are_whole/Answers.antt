use Rattle.world_model.specs.Contents.{pool_at}
use Rattle.world_model.specs.Outcomes.{member_rows}
use Rattle.world_model.proofs.MemberLemmas.{rows_each_once, member_rows_each_once, sorted_pool, sorted_members}
use Rattle.world_model.proofs.FieldOrderLemmas.{ascending-sorted}
use Rattle.world_model.proofs.group_laws.sorts_are_whole.Goals as goal

pub returns-clause-component : goal.returns-clause-component
returns-clause-component c = sorted_pool

pub returns-clause-group : goal.returns-clause-group
returns-clause-group c = sorted_members

pub returns-clause-component_order : goal.returns-clause-component_order
returns-clause-component_order c = λ limit w pool field lawful.
    ascending-sorted field (pool_at w pool) (rows_each_once limit w pool lawful)

pub returns-clause-group_order : goal.returns-clause-group_order
returns-clause-group_order c = λ limit w decl pool field lawful.
    ascending-sorted field (member_rows w decl pool) (member_rows_each_once limit w decl pool lawful)
