use Rattle.row_lang.proofs.NameLemmas.{pool_first, no_pool_first}
use Rattle.row_lang.proofs.name_lists.take_next_pool.Goals as goal

pub returns-in_err-pool-clause-none : goal.returns-in_err-pool-clause-none
returns-in_err-pool-clause-none c =
    rw c.from_residual-in_err-pool.ensures (no_pool_first c.args.decls.now c.args.text.now c.in_ok-text.text.now c.split_name.result.0.now c.split_name.result.1.now c.in_ok-text.ensures c.split_name.ensures c.in_err-pool.ensures.none)

pub returns-clause-some : goal.returns-clause-some
returns-clause-some c =
    pool_first c.args.decls.now c.args.text.now c.in_ok-text.text.now c.split_name.result.0.now c.split_name.result.1.now c.in_ok-pool.pool c.in_ok-text.ensures c.split_name.ensures c.in_ok-pool.ensures.some
