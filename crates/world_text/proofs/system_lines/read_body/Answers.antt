use Rattle.std.proofs.Common.{◌≡◌, Err, ap}
use Rattle.std.proofs.lemmas.Result.{err_from_is_err_and}
use Rattle.row_lang.specs.declared.fault.LineFault.TheVariants.{Bad}
use Rattle.world_text.proofs.SystemLineLemmas.{refuses_endless, refuses_body, takes_body}
use Rattle.world_text.proofs.system_lines.read_body.Goals as goal

pub returns-in_default-clause-bad : goal.returns-in_default-clause-bad
returns-in_default-clause-bad c = λ bad. refuses_endless c.args.draft.now c.args.bytes.now c.in_default.ensures

pub returns-in_err-add_body-clause-bad : goal.returns-in_err-add_body-clause-bad
returns-in_err-add_body-clause-bad c =
    let p = err_from_is_err_and c.from_residual.result c.from_residual.ensures.1 in
    λ bad.
    let fault : c.in_err-add_body.field-0.0 ≡ Bad = cc in
    refuses_body c.args.draft.now c.args.bytes.now c.in-Some.line.now c.in-Some.rest.now c.requires c.in-Some.ensures (c.in_err-add_body.ensures.bad (ap Err fault))

pub returns-clause-ok : goal.returns-clause-ok
returns-clause-ok c = takes_body c.args.draft.now c.add_body.new.draft c.args.bytes.now c.in-Some.line.now c.in-Some.rest.now c.in-Some.ensures c.in_ok-add_body.ensures.ok
