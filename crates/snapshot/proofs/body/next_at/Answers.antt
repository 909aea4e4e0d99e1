use Rattle.std.proofs.Common.{arith}
use Rattle.snapshot.specs.Fields.{u32_bytes}
use Rattle.snapshot.proofs.PlaceLemmas.{too_short}
use Rattle.snapshot.proofs.body.next_at.Goals as goal

pub returns-in_err-index-clause-none : goal.returns-in_err-index-clause-none
returns-in_err-index-clause-none c =
    rw c.from_residual.ensures (λ index more is e. too_short 4 c.args.at c.args.bytes.now (u32_bytes index) more c.in_err-index.ensures.none (omega arith) (omega arith) e)
