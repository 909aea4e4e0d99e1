use Rattle.row_lang.proofs.TokenLemmas.{pool_of_name, one_name, name_token}
use Rattle.row_lang.proofs.token_reading.pool_named.Goals as goal

pub returns-in_err-pool-clause-none : goal.returns-in_err-pool-clause-none
returns-in_err-pool-clause-none c =
    rw c.from_residual.ensures (λ other declared e. c.in_err-pool.ensures.none other (name_token c.args.decls.now c.args.word.now other c.requires declared e))

pub returns-clause-some : goal.returns-clause-some
returns-clause-some c = pool_of_name c.args.decls.now c.args.word.now c.in_ok-pool.pool c.in_ok-pool.ensures.some.first

pub returns-clause-once : goal.returns-clause-once
returns-clause-once c = λ other declared e. one_name c.args.decls.now c.args.word.now c.in_ok-pool.pool other c.requires c.in_ok-pool.ensures.some.first declared e
