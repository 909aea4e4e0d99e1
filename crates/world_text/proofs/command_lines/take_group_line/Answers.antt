use Rattle.std.proofs.Common.{◌≡◌, Err, ap}
use Rattle.std.proofs.lemmas.Result.{err_from_is_err_and}
use Rattle.row_lang.specs.declared.fault.LineFault.TheVariants.{Bad}
use Rattle.world_text.proofs.command_lines.take_group_line.Goals as goal

pub returns-in_err-decl-clause-bad : goal.returns-in_err-decl-clause-bad
returns-in_err-decl-clause-bad c =
    let p = err_from_is_err_and c.from_residual.result c.from_residual.ensures.1 in
    λ bad line rest h.
    let fault : c.in_err-decl.field-0.0 ≡ Bad = cc in
    c.in_err-decl.ensures.bad (ap Err fault) h.0 rest h.1
