use Rattle.std.proofs.Common.{◌≡◌, to_z, of_z, arith}
use Rattle.std.specs.Int.{w64}
use Rattle.std.proofs.lemmas.Int.{to_z-of_z}
use Rattle.world_model.specs.declared.component.Kind.TheVariants.{Ref}
use Rattle.snapshot.proofs.ValueReadLemmas.{short_value, null_here, target_here}
use Rattle.snapshot.proofs.values.target_at.Goals as goal

pub returns-in_err-index-clause-none : goal.returns-in_err-index-clause-none
returns-in_err-index-clause-none c = rw c.from_residual.ensures (short_value Ref c.args.bytes.now c.args.at (omega (arith, c.in_err-index.ensures.none)))

pub returns-in_err-version-clause-none : goal.returns-in_err-version-clause-none
returns-in_err-version-clause-none c = rw c.from_residual-in_err-version.ensures (short_value Ref c.args.bytes.now c.args.at (omega (arith, c.in_err-version.ensures.none)))

pub returns-then-version-clause-some : goal.returns-then-version-clause-some
returns-then-version-clause-some c =
    null_here c.args.bytes.now c.args.at c.in_ok-index.index c.in_ok-version.version c.in_ok-index.ensures.some c.in_ok-version.ensures.some c.if-index.true c.if-version.true

pub returns-clause-some : goal.returns-clause-some
returns-clause-some c =
    let same : to_z w64 (of_z w64 c.to_field.result) ≡ c.to_field.result = grind (arith, to_z-of_z) in
    rw (same, c.to_field.ensures) (target_here c.args.bytes.now c.args.at (record { index = c.in_ok-index.index; version = c.in_ok-version.version }) c.in_ok-index.ensures.some c.in_ok-version.ensures.some (omega arith) (omega arith))
