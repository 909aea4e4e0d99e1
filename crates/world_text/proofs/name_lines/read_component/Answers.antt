use Rattle.std.proofs.Common.{◌≡◌, Err, ap, sym, subst, ◌∙◌}
use Rattle.std.proofs.lemmas.Result.{err_from_is_err_and}
use Rattle.entity_id.specs.Cuts.{Lacks}
use Rattle.entity_id.proofs.CutLemmas.{no_cut}
use Rattle.world_text.specs.LineKinds as line
use Rattle.world_text.specs.Lines.{decl_text}
use Rattle.world_text.specs.Drafts.{Refuses}
use Rattle.row_lang.specs.declared.fault.LineFault.TheVariants.{Bad}
use Rattle.world_text.proofs.WordLemmas.{same_decl}
use Rattle.world_text.proofs.PartLemmas.{refuses_component, decl_is_front}
use Rattle.world_text.proofs.name_lines.read_component.Goals as goal

pub returns-in_default-clause-bad : goal.returns-in_default-clause-bad
returns-in_default-clause-bad c = λ bad.
    refuses_component c.args.draft.now c.args.text.now (λ decl more is e. absurd (no_cut 10 (decl_text decl) more (subst (Lacks 10) e c.in_default.ensures)))

pub returns-in_err-decl-clause-bad : goal.returns-in_err-decl-clause-bad
returns-in_err-decl-clause-bad c =
    let p = err_from_is_err_and c.from_residual.result c.from_residual.ensures.1 in
    λ bad. refuses_component c.args.draft.now c.args.text.now (λ decl more is e.
    let fault : c.in_err-decl.field-0.0 ≡ Bad = cc in
    absurd (c.in_err-decl.ensures.bad (ap Err fault) decl is (decl_is_front c.args.text.now c.in-Some.text.now c.in-Some.after.now decl more c.in-Some.ensures is e)))

pub returns-in_err-add_component-clause-bad : goal.returns-in_err-add_component-clause-bad
returns-in_err-add_component-clause-bad c =
    let p = err_from_is_err_and c.from_residual-in_err-add_component.result c.from_residual-in_err-add_component.ensures.1 in
    λ bad. refuses_component c.args.draft.now c.args.text.now (λ decl more is e.
    let fault : c.in_err-add_component.field-0.0 ≡ Bad = cc in
    let read = c.in_ok-decl.ensures.ok in
    let same = same_decl c.in_ok-decl.decl decl read.0 is (sym read.1 ∙ decl_is_front c.args.text.now c.in-Some.text.now c.in-Some.after.now decl more c.in-Some.ensures is e) in
    subst (λ d. Refuses c.args.draft.now (line.Component d)) same (c.in_err-add_component.ensures.bad (ap Err fault)))
