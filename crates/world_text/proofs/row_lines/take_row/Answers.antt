use Rattle.std.proofs.Common.{◌≡◌, arith}
use Rattle.std.proofs.lemmas.Int.{to_z-of_z}
use mir.Val.{to_z, of_z}
use mir.Syntax.{w64}
use Rattle.world_model.specs.declared.component.Kind.TheVariants.{Int}
use Rattle.world_text.proofs.TakingLemmas.{taken_more, none_next, none_end, row_taken}
use Rattle.world_text.proofs.row_lines.take_row.Goals as goal

pub returns-in_err-field-clause-none : goal.returns-in_err-field-clause-none
returns-in_err-field-clause-none c =
    rw c.from_residual.ensures (none_next c.args.profile c.args.kinds.now c.args.text.now c.loop-at.at c.loop-at.row.f c.loop-at.rest.now Int (record { index = omega arith; version = omega arith }) c.loop-at-test.true c.loop-at.invariant c.in_err-field.ensures.none)

pub loop-at-preserved : goal.loop-at-preserved
loop-at-preserved c =
    let same : to_z w64 (of_z w64 c.in_ok-field.field) ≡ c.in_ok-field.field = grind (arith, to_z-of_z) in
    rw same (taken_more c.args.profile c.args.kinds.now c.args.text.now c.loop-at.at c.loop-at.row.f c.loop-at.rest.now Int c.in_ok-field.field c.in_ok-field.after.now c.loop-at-test.true c.requires c.loop-at.invariant c.in_ok-field.ensures.some)

pub returns-in_err-after-clause-none : goal.returns-in_err-after-clause-none
returns-in_err-after-clause-none c =
    rw c.from_residual-in_err-after.ensures (none_end c.args.profile c.args.kinds.now c.args.text.now c.loop-at.at c.loop-at.row.f c.loop-at.rest.now (record { index = omega arith; version = omega arith }) c.loop-at-test.false c.loop-at.invariant c.in_err-after.ensures)

pub returns-clause-some : goal.returns-clause-some
returns-clause-some c =
    row_taken c.args.profile c.args.kinds.now c.args.text.now c.loop-at.at c.loop-at.row c.loop-at.rest.now c.in_ok-after.after.now c.loop-at-test.false c.loop-at.invariant c.in_ok-after.ensures
