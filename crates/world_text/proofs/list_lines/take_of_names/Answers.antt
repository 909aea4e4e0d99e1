use Rattle.std.proofs.Common.{◌≡◌, Err, ap, arith}
use Rattle.std.proofs.lemmas.Result.{err_from_is_err_and}
use Rattle.world_text.specs.Formats.{version_1}
use Rattle.row_lang.specs.declared.fault.LineFault.TheVariants.{Bad}
use Rattle.world_text.proofs.ListLineLemmas.{no_entity_names}
use Rattle.world_text.proofs.list_lines.take_of_names.Goals as goal

pub returns-in_err-pools-clause-bad : goal.returns-in_err-pools-clause-bad
returns-in_err-pools-clause-bad c =
    let p = err_from_is_err_and c.from_residual.result c.from_residual.ensures.1 in
    λ bad line rest h.
    let fault : c.in_err-pools.field-0.0 ≡ Bad = cc in
    no_entity_names version_1.profile c.args.decls.now c.args.text.now c.in-Some.rest.now c.in-Some.entity (record { index = omega arith; version = omega arith }) c.in-Some.ensures.some (c.in_err-pools.ensures.bad (ap Err fault)) h.0 h.1 rest h.2
