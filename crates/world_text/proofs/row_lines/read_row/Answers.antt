use Rattle.std.proofs.Common.{◌≡◌, ◌-◌, length, slice_get, Some, Err, ap}
use Rattle.std.proofs.lemmas.Result.{err_from_is_err_and}
use Rattle.row_lang.specs.declared.fault.LineFault.TheVariants.{Bad}
use Rattle.world_text.proofs.FormatLemmas.{format_limits}
use Rattle.world_text.proofs.RowLineLemmas.{takes_line, no_entity, no_values, no_place}
use Rattle.world_text.proofs.row_lines.read_row.Goals as goal

pub returns-clause-ok : goal.returns-clause-ok
returns-clause-ok c =
    let of = c.in-Some-kinds_at.ensures.found in
    let found : slice_get c.args.draft.now.decls.items (length c.args.draft.now.pools.items - 1) ≡ Some of.0 = cc (of.1) in
    takes_line c.args.draft.now c.add_row.new.draft c.args.text.now c.in-Some.rest.now c.in-Some-take_row.after.now c.in-Some.entity c.in-Some-take_row.row c.in-Some-kinds_at.kinds.now of.0
    c.in-Some.ensures.some found of.2 c.in-Some-kinds_at.ensures.few c.in-Some-take_row.ensures.some c.in_ok-add_row.ensures.ok

pub returns-in_default-clause-bad : goal.returns-in_default-clause-bad
returns-in_default-clause-bad c = λ _. no_entity c.args.draft.now c.args.text.now c.in_default.ensures.none

pub returns-in_default-take_row-clause-bad : goal.returns-in_default-take_row-clause-bad
returns-in_default-take_row-clause-bad c = λ _.
    let of = c.in-Some-kinds_at.ensures.found in
    let found : slice_get c.args.draft.now.decls.items (length c.args.draft.now.pools.items - 1) ≡ Some of.0 = cc (of.1) in
    no_values c.args.draft.now c.args.text.now c.in-Some.rest.now c.in-Some.entity c.in-Some-kinds_at.kinds.now of.0
    (format_limits c.args.draft.now.format c.requires) c.in-Some.ensures.some found of.2 c.in_default-take_row.ensures.none

pub returns-in_err-add_row-clause-bad : goal.returns-in_err-add_row-clause-bad
returns-in_err-add_row-clause-bad c =
    let p = err_from_is_err_and c.from_residual.result c.from_residual.ensures.1 in
    λ bad.
    let fault : c.in_err-add_row.field-0.0 ≡ Bad = cc in
    no_place c.args.draft.now c.args.text.now c.in-Some.rest.now c.in-Some.entity
    (format_limits c.args.draft.now.format c.requires) c.in-Some.ensures.some (c.in_err-add_row.ensures.bad (ap Err fault))
