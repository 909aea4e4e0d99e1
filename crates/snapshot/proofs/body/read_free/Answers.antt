use Rattle.std.proofs.Common.{◌≡◌, ℕ, suc, ◌+◌, ◌-◌, subst, arith}
use Rattle.std.proofs.lemmas.Result.{err_from_is_err_and}
use Rattle.snapshot.specs.Reading.{SlotsDue}
use Rattle.snapshot.proofs.body.read_free.Goals as goal

pub returns-in_err-read_next-clause-cause : goal.returns-in_err-read_next-clause-cause
returns-in_err-read_next-clause-cause c =
    let p = err_from_is_err_and c.from_residual-in_err-read_next.result c.from_residual-in_err-read_next.ensures.1 in
    let one_more : c.args.free - c.loop.counter ≡ suc (c.args.free - (c.loop.counter + 1)) = omega arith in
    rw (p.1, p.2) (c.in_err-read_next.ensures.cause (c.args.free - (c.loop.counter + 1)) (subst (λ (n : ℕ). SlotsDue c.args.bytes.now c.loop.to c.loop.draft 0 n) one_more c.loop.invariant))
