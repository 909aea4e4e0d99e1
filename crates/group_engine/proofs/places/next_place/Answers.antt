use Rattle.std.proofs.Common.{◌/◌, ◌^◌, sym, subst, rules, w64}
use Rattle.std.specs.Int.{trailing_zeros}
use Rattle.group_engine.proofs.PlaceLemmas.{IsNext, next_is}
use Rattle.group_engine.proofs.places.next_place.Goals as goal

pub returns-clause-set : goal.returns-clause-set
returns-clause-set c =
    let h : IsNext c.args.mask c.args.from (trailing_zeros w64 (c.from.result / 2 ^ c.args.from)) =
    subst (λ m. IsNext c.args.mask c.args.from (trailing_zeros w64 (m / 2 ^ c.args.from))) (sym c.from.ensures) (next_is c.args.mask c.args.from c.requires (search rules)) in
    h.set

pub returns-clause-clear : goal.returns-clause-clear
returns-clause-clear c =
    let h : IsNext c.args.mask c.args.from (trailing_zeros w64 (c.from.result / 2 ^ c.args.from)) =
    subst (λ m. IsNext c.args.mask c.args.from (trailing_zeros w64 (m / 2 ^ c.args.from))) (sym c.from.ensures) (next_is c.args.mask c.args.from c.requires (search rules)) in
    h.clear
