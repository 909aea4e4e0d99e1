use Rattle.world_model.proofs.IntegerLemmas.{minus_first, no_minus_zero}
use Rattle.world_model.proofs.integer.take_int.Goals as goal

pub returns-in_err-magnitude-clause-none : goal.returns-in_err-magnitude-clause-none
returns-in_err-magnitude-clause-none c = rw c.from_residual.ensures (λ z rest first.
    let h = minus_first c.args.text.now c.in-Some.digits.now z rest c.in-Some.ensures first in
    c.in_err-magnitude.ensures.none _ rest h.1)

pub returns-then-magnitude-eq0-clause-none : goal.returns-then-magnitude-eq0-clause-none
returns-then-magnitude-eq0-clause-none c = λ z rest first.
    no_minus_zero c.args.text.now c.in-Some.digits.now c.in_ok-magnitude.rest.now c.in_ok-magnitude.magnitude z rest c.in-Some.ensures c.in_ok-magnitude.ensures.some c.if-magnitude-eq0.true first
