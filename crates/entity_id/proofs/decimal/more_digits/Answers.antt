use Rattle.std.proofs.Common.{◌≡◌, ◌+◌, ◌*◌, arith, subst, sym}
use Rattle.entity_id.specs.Texts.{BeginsWithDigits}
use Rattle.entity_id.proofs.DecimalLemmas.{one_more_digit}
use Rattle.entity_id.proofs.FrontLemmas.{front_within}
use Rattle.entity_id.proofs.decimal.more_digits.Goals as goal

pub returns-in_err-number-clause-none : goal.returns-in_err-number-clause-none
returns-in_err-number-clause-none c = rw c.from_residual.ensures (λ n rest first.
    let d = c.in-Some.ensures in
    let more = one_more_digit c.args.text.now c.loop-digit.number c.loop-digit.at c.in-Some.digit c.loop-digit.invariant d.0.0 d.0.1 d.0.2 d.1 in
    let within = front_within c.args.limit n (c.loop-digit.at + 1) c.args.text.now rest (omega arith) first more.digits in
    absurd (c.in_err-number.ensures (omega (arith, within, more.value_is))))

pub loop-digit-preserved : goal.loop-digit-preserved
loop-digit-preserved c =
    let d = c.in-Some.ensures in
    let more = one_more_digit c.args.text.now c.loop-digit.number c.loop-digit.at c.in-Some.digit c.loop-digit.invariant d.0.0 d.0.1 d.0.2 d.1 in
    let next : 10 * c.loop-digit.number + c.in-Some.digit ≡ c.in_ok-number.number = omega (arith, c.in_ok-number.ensures) in
    subst (λ n. BeginsWithDigits c.args.text.now n (c.loop-digit.at + 1)) next more
