use Rattle.std.proofs.Common.{◌≡◌, ◌<◌, ◌^◌, ℤ, to_z, of_z, ap, ◌∙◌, arith}
use Rattle.std.specs.Int.{w64, cast_signed}
use Rattle.std.proofs.lemmas.Int.{of_z-to_z}
use Rattle.world_model.specs.declared.component.Kind.TheVariants.{Int}
use Rattle.snapshot.proofs.ValueReadLemmas.{short_value, integer_here}
use Rattle.snapshot.proofs.values.integer_at.Goals as goal

pub returns-in_err-number-clause-none : goal.returns-in_err-number-clause-none
returns-in_err-number-clause-none c = rw c.from_residual.ensures (short_value Int c.args.bytes.now c.args.at c.in_err-number.ensures.none)

pub returns-clause-some : goal.returns-clause-some
returns-clause-some c =
    let small : c.in_ok-number.number < 2 ^ 64 = omega arith in
    let same : to_z w64 (of_z w64 c.cast_signed.result) ≡ cast_signed w64 c.in_ok-number.number = ap (λ (z : ℤ). to_z w64 (of_z w64 z)) c.cast_signed.ensures ∙ ap (to_z w64) (of_z-to_z w64 c.in_ok-number.number small) in
    rw same (integer_here c.args.bytes.now c.args.at c.in_ok-number.number small c.in_ok-number.ensures.some)
