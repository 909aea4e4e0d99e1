use Rattle.std.proofs.Common.{◌≡◌, List, Err, ap, sym, subst}
use Rattle.std.proofs.lemmas.Result.{err_from_is_err_and}
use Rattle.world_model.specs.declared.component.Decl.{Decl}
use Rattle.world_text.specs.GroupLines.{IsGroupFirst}
use Rattle.row_lang.specs.declared.fault.LineFault.TheVariants.{Bad}
use Rattle.world_text.proofs.ReadGroupLemmas.{group_taken, group_not_added, group_not_read}
use Rattle.world_text.proofs.name_lines.read_group.Goals as goal

pub returns-in_err-decl-clause-bad : goal.returns-in_err-decl-clause-bad
returns-in_err-decl-clause-bad c =
    let p = err_from_is_err_and c.from_residual.result c.from_residual.ensures.1 in
    λ bad.
    let fault : c.in_err-decl.field-0.0 ≡ Bad = cc in
    group_not_read c.args.draft.now c.args.text.now (λ decl after first.
    c.in_err-decl.ensures.bad (ap Err fault) decl after (subst (λ (ds : List Decl). IsGroupFirst ds c.args.text.now decl after) (sym c.deref.ensures.value) first))

pub returns-in_err-add_group-clause-bad : goal.returns-in_err-add_group-clause-bad
returns-in_err-add_group-clause-bad c =
    let p = err_from_is_err_and c.from_residual-in_err-add_group.result c.from_residual-in_err-add_group.ensures.1 in
    λ bad.
    let fault : c.in_err-add_group.field-0.0 ≡ Bad = cc in
    group_not_added c.args.draft.now c.args.text.now c.in_ok-decl.decl c.in_ok-decl.after.now
    (subst (λ (ds : List Decl). IsGroupFirst ds c.args.text.now c.in_ok-decl.decl c.in_ok-decl.after.now) c.deref.ensures.value c.in_ok-decl.ensures.ok)
    (c.in_err-add_group.ensures.bad (ap Err fault))

pub returns-clause-ok : goal.returns-clause-ok
returns-clause-ok c =
    group_taken c.args.draft.now c.add_group.new.draft c.args.text.now c.in_ok-decl.decl c.in_ok-decl.after.now
    (subst (λ (ds : List Decl). IsGroupFirst ds c.args.text.now c.in_ok-decl.decl c.in_ok-decl.after.now) c.deref.ensures.value c.in_ok-decl.ensures.ok)
    c.in_ok-add_group.ensures.ok
