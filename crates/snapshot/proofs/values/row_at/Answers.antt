use Rattle.std.proofs.Common.{◌≡◌, to_z, of_z, arith}
use Rattle.std.specs.Int.{w64}
use Rattle.std.proofs.lemmas.Int.{to_z-of_z}
use Rattle.world_model.specs.declared.component.Kind.TheVariants.{Int}
use Rattle.snapshot.proofs.RowBytesLemmas.{read_next, none_next, row_here}
use Rattle.snapshot.proofs.values.row_at.Goals as goal

pub returns-in_err-row-clause-none : goal.returns-in_err-row-clause-none
returns-in_err-row-clause-none c =
    rw c.from_residual.ensures (none_next c.args.kinds.now c.args.bytes.now c.args.at c.loop-place.place c.loop-place.row.f c.loop-place.to Int c.loop-place-test.true c.loop-place.invariant.read c.in_err-row.ensures.none)

pub loop-place-preserved : goal.loop-place-preserved
loop-place-preserved c =
    let same : to_z w64 (of_z w64 c.in_ok-row.field-0) ≡ c.in_ok-row.field-0 = grind (arith, to_z-of_z) in
    record {
      read = rw same (read_next c.args.kinds.now c.args.bytes.now c.args.at c.loop-place.place c.loop-place.row.f c.loop-place.to Int c.in_ok-row.field-0 c.loop-place-test.true c.requires.few c.loop-place.invariant.read c.in_ok-row.ensures.some);
      within = omega (arith, c.in_ok-row.ensures.within);
    }

pub returns-clause-some : goal.returns-clause-some
returns-clause-some c =
    row_here c.args.kinds.now c.args.bytes.now c.args.at c.loop-place.place c.loop-place.row c.loop-place.to c.loop-place-test.false c.loop-place.invariant.read
