use Rattle.std.proofs.Common.{◌≡◌, sym, ◌∙◌, arith}
use Rattle.std.proofs.lemmas.Fmt.{decimal_injective}
use Rattle.world_top.proofs.WordLemmas.{number_is, number_is_none}
use Rattle.world_top.proofs.options.number_between.Goals as goal

pub returns-then-number-least : goal.returns-then-number-least
returns-then-number-least c =
    let found = c.in_ok-number.ensures.some in
    sym (number_is_none c.args.least c.args.greatest c.args.word.now (λ n low high spelled.
    let same : c.in_ok-number.number ≡ n = decimal_injective c.in_ok-number.number n (omega arith) (omega arith) (sym found.1 ∙ spelled) in
    omega (arith, same, low, c.if-number-least.true)))

pub returns-else-number-least : goal.returns-else-number-least
returns-else-number-least c =
    let found = c.in_ok-number.ensures.some in
    sym (number_is c.args.least c.args.greatest c.in_ok-number.number c.args.word.now (omega arith) (omega arith) found.0 found.1)
