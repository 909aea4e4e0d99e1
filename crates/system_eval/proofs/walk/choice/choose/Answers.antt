use Rattle.std.proofs.Common.{◌≡◌, ℕ, List, length, subst}
use Rattle.entity_id.specs.FiniteMap as entries
use Rattle.world_model.specs.declared.component.Row.{Row}
use Rattle.storage.specs.Stored.{Stored}
use Rattle.system_api.specs.Registers.{pool_at}
use Rattle.system_eval.specs.Walks.{own_lent}
use Rattle.system_eval.proofs.walk.choice.choose.Goals as goal

pub returns-clause-chosen : goal.returns-clause-chosen
returns-clause-chosen c = λ maps shows.
    let at = c.prefix_or_smallest-choice.result.at in
    let stored : c.own_pool.result.now ≡ (pool_at (own_lent (length c.args.access.now.read) c.args.lent.now) at).storage =
    subst (λ (ns : List ℕ). c.own_pool.result.now ≡ (pool_at (own_lent (length ns) c.args.lent.now) at).storage) c.as_slice.ensures c.own_pool.ensures in
    c.prefix_or_smallest-choice.ensures.chosen maps shows (subst (λ (s : Stored Row). entries.HasEachOnce s.pairs) stored c.index-index.ensures.once)
