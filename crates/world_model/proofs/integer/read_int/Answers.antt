use Rattle.std.proofs.Common.{◌≢◌, length, [], ap, sym, ◌∙◌, rules}
use Rattle.world_model.proofs.IntegerLemmas.{same_integer, integer_alone}
use Rattle.world_model.proofs.integer.read_int.Goals as goal

pub returns-in_err-number-clause-none : goal.returns-in_err-number-clause-none
returns-in_err-number-clause-none c = rw c.from_residual.ensures (λ z is e.
    c.in_err-number.ensures.none z [] (integer_alone z c.args.token.now is e))

pub returns-else-is_empty-clause-none : goal.returns-else-is_empty-clause-none
returns-else-is_empty-clause-none c = λ z is e.
    let first = c.in_ok-number.ensures.some in
    let alone = integer_alone z c.args.token.now is e in
    let same = same_integer c.in_ok-number.number z c.in_ok-number.rest.now [] first.is is first.ended tt (sym first.whole ∙ alone.whole) in
    let some : length c.in_ok-number.rest.now ≢ 0 = search rules in
    some (ap length same.1)
