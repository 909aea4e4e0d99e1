use Rattle.world_text.proofs.LinePartLemmas.{no_last_pool}
use Rattle.world_text.proofs.line_parts.take_last_pool.Goals as goal

pub returns-in_err-rest-clause-none : goal.returns-in_err-rest-clause-none
returns-in_err-rest-clause-none c =
    rw c.from_residual-in_err-rest.ensures (no_last_pool c.args.decls.now c.args.text.now c.in_ok-pool.rest.now c.in_ok-pool.pool c.in_ok-pool.ensures.some c.in_err-rest.ensures)
