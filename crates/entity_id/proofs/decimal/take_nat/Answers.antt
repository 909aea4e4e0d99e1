use Rattle.std.proofs.Common.{◌≡◌, ◌<◌, ◌≤◌, ◌^◌, length, take, get_or, arith, rules, ap}
use Rattle.std.specs.Fmt.{decimal}
use Rattle.std.proofs.lemmas.Fmt.{decimal_nonempty}
use Rattle.std.proofs.lemmas.List.{length-take-le, take_rest}
use Rattle.entity_id.proofs.DecimalLemmas.{not_padded}
use Rattle.entity_id.proofs.FrontLemmas.{front_within, front_is, number_first}
use Rattle.entity_id.proofs.decimal.take_nat.Goals as goal
use Rattle.entity_id.proofs.decimal.take_nat.Goals.{then-number-limit-via-then-number-limit, then-number-limit-via-else-number-limit+then-count-eq0, then-number-limit-via-else-number-limit+else-count-eq0+then-is_padded}

pub returns-then-number-limit-clause-none : goal.returns-then-number-limit-clause-none
returns-then-number-limit-clause-none c = λ n rest first.
    let text = c.args.text.now in
    let count = c.in_ok-number.count in
    let all = c.in_ok-number.ensures.some in
    let small : n < 2 ^ 64 = omega (arith, first.within) in
    let is : take count text ≡ decimal n = front_is c.args.limit n count text rest (omega arith) first all.0.digits all.1 in
    elim c.then-number-limit.branch [
      | then-number-limit-via-then-number-limit w ↦
          let over : c.args.limit < c.in_ok-number.number = w.if-number-limit.true in
          omega (arith, over, front_within c.args.limit n count text rest (omega arith) first all.0.digits, all.0.value_is)
      | then-number-limit-via-else-number-limit+then-count-eq0 w ↦
          let none : count ≡ 0 = w.if-count-eq0.true in
          omega (arith, none, decimal_nonempty n small, ap length is, length-take-le count text all.0.inside)
      | then-number-limit-via-else-number-limit+else-count-eq0+then-is_padded w ↦
          let padded : (1 < length (take count text)) × (get_or (take count text) 0 0 ≡ 48) = search (rules, w) in
          not_padded (take count text) n small is padded.0 padded.1
    ]

pub returns-clause-some : goal.returns-clause-some
returns-clause-some c =
    let text = c.args.text.now in
    let count = c.in_ok-number.count in
    let all = c.in_ok-number.ensures.some in
    number_first c.args.limit c.in_ok-number.number count text _ (omega arith) (omega (arith, c.if-number-limit.false)) c.if-count-eq0.false all.0.inside all.0.digits all.0.value_is (search rules) all.1 (take_rest text count)
