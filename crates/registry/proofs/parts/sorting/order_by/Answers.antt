use Rattle.std.proofs.Common.{map, ap, ◌∙◌}
use Rattle.world_model.specs.Components.{value_at}
use Rattle.registry.proofs.ResultLemmas.{if_ok}
use Rattle.registry.proofs.SortLemmas.{pool_order}
use Rattle.registry.proofs.parts.sorting.order_by.Goals as goal

pub returns-clause-order : goal.returns-clause-order
returns-clause-order c =
    let field = c.args.field in
    let pairs = c.args.stored.now.pairs in
    if_ok c.order_of.result c.order_of.ensures.order (λ order walk.
    pool_order field c.len.result pairs c.deref.result.now c.index.result.now.list order c.index.ensures.once
    (c.deref.ensures.value ∙ c.in_ok-values.ensures ∙ ap (map (λ row. value_at row field)) c.values.ensures) c.index.ensures.list c.len.ensures.pairs walk)
