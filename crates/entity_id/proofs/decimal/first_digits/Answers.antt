use Rattle.std.proofs.Common.{◌≡◌, ◌<◌, ◌≤◌, ◌^◌, length, take, arith, rules}
use Rattle.std.proofs.lemmas.List.{length-take-le}
use Rattle.entity_id.proofs.DecimalLemmas.{one_more_digit, few_digits}
use Rattle.entity_id.proofs.decimal.first_digits.Goals as goal

pub overflow_mul-number : goal.overflow_mul-number
overflow_mul-number c =
    let d = c.in-Some.ensures in
    let few : c.loop-digit.at ≤ 18 = omega (arith, d.0.0, c.min.ensures, length-take-le c.min.result c.args.text.now (omega (arith, c.min.ensures))) in
    omega (arith, few_digits _ c.loop-digit.number c.loop-digit.at c.loop-digit.invariant few)

pub overflow_add-number : goal.overflow_add-number
overflow_add-number c =
    let d = c.in-Some.ensures in
    let few : c.loop-digit.at ≤ 18 = omega (arith, d.0.0, c.min.ensures, length-take-le c.min.result c.args.text.now (omega (arith, c.min.ensures))) in
    omega (arith, few_digits _ c.loop-digit.number c.loop-digit.at c.loop-digit.invariant few, c.from.ensures, d.0.2, d.1)

pub loop-digit-preserved : goal.loop-digit-preserved
loop-digit-preserved c =
    let d = c.in-Some.ensures in
    one_more_digit _ c.loop-digit.number c.loop-digit.at c.from.result c.loop-digit.invariant d.0.0 d.0.1 d.0.2 (omega (arith, c.from.ensures, d.1))
