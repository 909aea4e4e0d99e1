use Rattle.std.proofs.Common.{◌≡◌, ℕ, suc, ◌+◌, ◌-◌, subst, arith}
use Rattle.std.proofs.lemmas.Result.{err_from_is_err_and}
use Rattle.snapshot.specs.Reading.{HeadersDue}
use Rattle.snapshot.proofs.beginning.read_header.Goals as goal

pub returns-in_err-at-clause-cause : goal.returns-in_err-at-clause-cause
returns-in_err-at-clause-cause c =
    let p = err_from_is_err_and c.from_residual.result c.from_residual.ensures.1 in
    let one_more : c.args.count - c.loop.counter ≡ suc (c.args.count - (c.loop.counter + 1)) = omega arith in
    rw (p.1, p.2) (c.in_err-at.ensures.cause (c.args.count - (c.loop.counter + 1)) (subst (λ (n : ℕ). HeadersDue c.args.bytes.now c.loop.at c.loop.header n) one_more c.loop.invariant))
