use Rattle.std.proofs.Common.{◌≡◌, ◌∷◌, Err, ap, arith}
use Rattle.std.proofs.lemmas.Result.{err_from_is_err_and}
use Rattle.row_lang.specs.declared.fault.LineFault.TheVariants.{Bad}
use Rattle.world_text.proofs.GroupLineLemmas.{group_next, group_first, group_too_long, group_unended, lists_length}
use Rattle.world_text.proofs.group_lines.take_group.Goals as goal

pub returns-in_err-group-clause-bad : goal.returns-in_err-group-clause-bad
returns-in_err-group-clause-bad c =
    let p = err_from_is_err_and c.from_residual.result c.from_residual.ensures.1 in
    λ bad group rest h.
    let fault : c.in_err-group.field-0.0 ≡ Bad = cc in
    c.in_err-group.ensures.bad (ap Err fault) group (10 ∷ rest) (group_next c.args.decls.now c.args.text.now group rest h)

pub overflow_sub-text : goal.overflow_sub-text
overflow_sub-text c =
    omega (arith, lists_length c.args.decls.now c.args.text.now c.in_ok-group.group c.in_ok-group.behind.now c.in_ok-group.ensures.ok)

pub returns-then-text-behind-gt-GROUP_LIMIT-clause-bad :
    goal.returns-then-text-behind-gt-GROUP_LIMIT-clause-bad
returns-then-text-behind-gt-GROUP_LIMIT-clause-bad c = λ _.
    group_too_long c.args.decls.now c.args.text.now c.in_ok-group.group c.in_ok-group.behind.now c.in_ok-group.ensures.ok c.if-text-behind-gt-GROUP_LIMIT.true

pub returns-in_default-clause-bad : goal.returns-in_default-clause-bad
returns-in_default-clause-bad c = λ _.
    group_unended c.args.decls.now c.args.text.now c.in_ok-group.group c.in_ok-group.behind.now c.in_ok-group.ensures.ok c.in_default.ensures

pub returns-clause-ok : goal.returns-clause-ok
returns-clause-ok c =
    group_first c.args.decls.now c.args.text.now c.in_ok-group.group c.in_ok-group.behind.now c.in-Some.rest.now c.in_ok-group.ensures.ok c.in-Some.ensures c.if-text-behind-gt-GROUP_LIMIT.false
