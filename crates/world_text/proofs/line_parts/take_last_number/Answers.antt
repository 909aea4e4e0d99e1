use Rattle.world_text.proofs.LinePartLemmas.{no_last_number}
use Rattle.world_text.proofs.line_parts.take_last_number.Goals as goal

pub returns-in_err-rest-clause-none : goal.returns-in_err-rest-clause-none
returns-in_err-rest-clause-none c =
    rw c.from_residual-in_err-rest.ensures (no_last_number c.args.text.now c.in_ok-number.rest.now c.in_ok-number.number c.in_ok-number.ensures.some c.in_err-rest.ensures)
