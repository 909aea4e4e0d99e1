use Rattle.std.proofs.Common.{arith}
use Rattle.snapshot.specs.Fields.{u64_bytes}
use Rattle.snapshot.proofs.PlaceLemmas.{too_short}
use Rattle.snapshot.proofs.body.tick_at.Goals as goal

pub returns-in_err-tick-clause-none : goal.returns-in_err-tick-clause-none
returns-in_err-tick-clause-none c =
    rw c.from_residual.ensures (λ tick more is e. too_short 8 c.args.at c.args.bytes.now (u64_bytes tick) more c.in_err-tick.ensures.none (omega arith) (omega arith) e)
