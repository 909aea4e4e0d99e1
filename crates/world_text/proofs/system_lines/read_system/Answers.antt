use Rattle.std.proofs.Common.{◌≡◌, ◌++◌, ℕ, List, Err, codes, sym, ap, subst, ◌∙◌}
use Rattle.std.proofs.lemmas.List.{append_cancel_left}
use Rattle.std.proofs.lemmas.Result.{err_from_is_err_and}
use Rattle.entity_id.specs.Cuts.{Lacks}
use Rattle.entity_id.proofs.CutLemmas.{no_cut}
use Rattle.world_text.specs.LineKinds as line
use Rattle.world_text.specs.Drafts.{Refuses, RefusesOthers}
use Rattle.row_lang.specs.declared.fault.LineFault.TheVariants.{Bad}
use Rattle.world_text.proofs.PartLemmas.{refuses_system}
use Rattle.world_text.proofs.SystemLineLemmas.{system_is_front}
use Rattle.world_text.proofs.system_lines.read_system.Goals as goal

pub returns-in_default-clause-bad : goal.returns-in_default-clause-bad
returns-in_default-clause-bad c = λ bad.
    subst (RefusesOthers c.args.draft.now) (sym c.requires.1) (refuses_system c.args.draft.now c.requires.0 (λ name more named e.
    absurd (no_cut 10 (codes "system " ++ name) more (subst (Lacks 10) (c.requires.1 ∙ ap (λ (t : List ℕ). codes "system " ++ t) e) c.in_default.ensures))))

pub returns-in_default-after-clause-bad : goal.returns-in_default-after-clause-bad
returns-in_default-after-clause-bad c = λ bad.
    subst (RefusesOthers c.args.draft.now) (sym c.requires.1) (refuses_system c.args.draft.now c.requires.0 (λ name more named e.
    absurd (c.in_default-after.ensures name (system_is_front c.args.bytes.now c.in-Some.line.now c.in-Some.rest.now c.requires.0 name more c.in-Some.ensures c.requires.1 named e))))

pub returns-in_err-system-clause-bad : goal.returns-in_err-system-clause-bad
returns-in_err-system-clause-bad c =
    let p = err_from_is_err_and c.from_residual.result c.from_residual.ensures.1 in
    λ bad. subst (RefusesOthers c.args.draft.now) (sym c.requires.1) (refuses_system c.args.draft.now c.requires.0 (λ name more named e.
    let fault : c.in_err-system.field-0.0 ≡ Bad = cc in
    absurd (c.in_err-system.ensures.bad (ap Err fault) name named (system_is_front c.args.bytes.now c.in-Some.line.now c.in-Some.rest.now c.requires.0 name more c.in-Some.ensures c.requires.1 named e))))

pub returns-in_err-add_system-clause-bad : goal.returns-in_err-add_system-clause-bad
returns-in_err-add_system-clause-bad c =
    let p = err_from_is_err_and c.from_residual-in_err-add_system.result c.from_residual-in_err-add_system.ensures.1 in
    λ bad. subst (RefusesOthers c.args.draft.now) (sym c.requires.1) (refuses_system c.args.draft.now c.requires.0 (λ name more named e.
    let fault : c.in_err-add_system.field-0.0 ≡ Bad = cc in
    let whole = system_is_front c.args.bytes.now c.in-Some.line.now c.in-Some.rest.now c.requires.0 name more c.in-Some.ensures c.requires.1 named e in
    let same : c.in-Some-after.name.now ≡ name = append_cancel_left (codes "system ") c.in-Some-after.name.now name (sym c.in-Some-after.ensures ∙ whole) in
    subst (λ (n : List ℕ). Refuses c.args.draft.now (line.System n)) same (c.in_err-add_system.ensures.bad (ap Err fault))))
