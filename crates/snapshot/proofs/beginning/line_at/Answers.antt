use Rattle.std.proofs.Common.{◌+◌, ◌≤◌, length, drop, ap, arith}
use Rattle.std.proofs.lemmas.List.{take_rest}
use Rattle.snapshot.specs.Fields.{line_bytes}
use Rattle.snapshot.proofs.PlaceLemmas.{too_short, line_here}
use Rattle.snapshot.proofs.beginning.line_at.Goals as goal

pub returns-in_err-size-clause-none : goal.returns-in_err-size-clause-none
returns-in_err-size-clause-none c =
    rw c.from_residual.ensures (λ text more short e. too_short 2 c.args.at c.args.bytes.now (line_bytes text) more c.in_err-size.ensures.none (omega arith) (omega arith) e)

pub returns-clause-some : goal.returns-clause-some
returns-clause-some c =
    let whole = take_rest c.args.bytes.now (c.args.at + 2) in
    let long : c.in_ok-size.field-0 ≤ length (drop (c.args.at + 2) c.args.bytes.now) = omega (arith, ap length whole) in
    rw whole (line_here c.args.bytes.now c.args.at c.in_ok-size.field-0 c.in_ok-size.ensures.some (omega arith) long)
