use Rattle.std.proofs.Common.{arith}
use Rattle.snapshot.specs.Fields.{Slot, field_bytes}
use Rattle.snapshot.proofs.PlaceLemmas.{too_short}
use Rattle.snapshot.proofs.body.slot_at.Goals as goal

pub returns-in_err-version-clause-none : goal.returns-in_err-version-clause-none
returns-in_err-version-clause-none c =
    rw c.from_residual-in_err-version.ensures (λ slot more is e. too_short 5 c.args.at c.args.bytes.now (field_bytes (Slot slot)) more (omega (arith, c.in_err-version.ensures.none)) (omega arith) (omega arith) e)
