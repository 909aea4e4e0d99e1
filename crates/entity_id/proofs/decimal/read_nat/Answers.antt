use Rattle.std.proofs.Common.{◌≢◌, length, ap, [], sym, arith, rules, ◌∙◌}
use Rattle.entity_id.proofs.FrontLemmas.{number_alone, same_number}
use Rattle.entity_id.proofs.decimal.read_nat.Goals as goal

pub returns-in_err-number-clause-none : goal.returns-in_err-number-clause-none
returns-in_err-number-clause-none c = rw c.from_residual.ensures (λ n within e.
    c.in_err-number.ensures.none n [] (number_alone c.args.limit n c.args.token.now within e))

pub returns-else-is_empty-clause-none : goal.returns-else-is_empty-clause-none
returns-else-is_empty-clause-none c = λ n within e.
    let first = c.in_ok-number.ensures.some in
    let alone = number_alone c.args.limit n c.args.token.now within e in
    let same = same_number c.in_ok-number.number n c.in_ok-number.rest.now [] (omega (arith, first.within)) (omega arith) first.ended tt (sym first.whole ∙ alone.whole) in
    let some : length c.in_ok-number.rest.now ≢ 0 = search rules in
    some (ap length same.1)
