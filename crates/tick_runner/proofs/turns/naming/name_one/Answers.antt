use Rattle.std.proofs.Common.{◌≡◌, ℕ, List, true, sym, ap, ◌∙◌, subst}
use Rattle.world_model.specs.Groups.{are_distinct, has_pool}
use Rattle.tick_runner.proofs.NamingLemmas.{distinct-push}
use Rattle.tick_runner.proofs.turns.naming.name_one.Goals as goal

pub returns-then-not-has_pool-clause-distinct : goal.returns-then-not-has_pool-clause-distinct
returns-then-not-has_pool-clause-distinct c = λ distinct.
    subst (λ (list : List ℕ). are_distinct list ≡ true) (sym c.push.ensures.items)
    (distinct-push c.args.pools.now.items c.args.pool distinct (ap (λ (list : List ℕ). has_pool list c.args.pool) (sym c.as_slice.ensures.value) ∙ sym c.has_pool.ensures ∙ c.if-not-has_pool.true))
