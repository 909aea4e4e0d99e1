use Rattle.world_model.proofs.NestedLemmas.{inner_counted, inner_prefix, inner_front, owns_some}
use Rattle.world_model.proofs.group_laws.nested_groups.Goals as goal

pub returns-clause-shorter : goal.returns-clause-shorter
returns-clause-shorter c = inner_counted

pub returns-clause-front : goal.returns-clause-front
returns-clause-front c = inner_prefix

pub returns-clause-pools : goal.returns-clause-pools
returns-clause-pools c = λ maps packed inner outer m n lists is lawful_inner lawful_outer pool has.
    inner_front packed pool m n (inner_counted maps packed inner outer m n lists is (owns_some outer.own pool has) lawful_inner lawful_outer)
