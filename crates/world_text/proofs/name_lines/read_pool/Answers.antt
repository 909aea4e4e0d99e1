use Rattle.std.proofs.Common.{◌≡◌, true, false, Err, ap, subst, ◌∙◌, rules}
use Rattle.std.proofs.lemmas.Result.{err_from_is_err_and}
use Rattle.entity_id.specs.Cuts.{Lacks}
use Rattle.entity_id.proofs.CutLemmas.{no_cut}
use Rattle.world_model.specs.Names.{is_name}
use Rattle.world_text.specs.LineKinds as line
use Rattle.world_text.specs.Drafts.{Refuses}
use Rattle.row_lang.specs.declared.fault.LineFault.TheVariants.{Bad}
use Rattle.world_text.proofs.PartLemmas.{refuses_pool, name_is_front}
use Rattle.world_text.proofs.name_lines.read_pool.Goals as goal

pub returns-in_default-clause-bad : goal.returns-in_default-clause-bad
returns-in_default-clause-bad c = λ bad.
    refuses_pool c.args.draft.now c.args.text.now (λ name more named e. absurd (no_cut 10 name more (subst (Lacks 10) e c.in_default.ensures)))

pub returns-then-not-is_name-clause-bad : goal.returns-then-not-is_name-clause-bad
returns-then-not-is_name-clause-bad c = λ bad.
    refuses_pool c.args.draft.now c.args.text.now (λ name more named e.
    let same = name_is_front c.args.text.now c.in-Some.name.now c.in-Some.after.now name more c.in-Some.ensures named e in
    let is : is_name c.in-Some.name.now ≡ true = ap is_name same ∙ named in
    let not_named : is_name c.in-Some.name.now ≡ false = search rules in
    absurd cc)

pub returns-in_err-add_pool-clause-bad : goal.returns-in_err-add_pool-clause-bad
returns-in_err-add_pool-clause-bad c =
    let p = err_from_is_err_and c.from_residual-in_err-add_pool.result c.from_residual-in_err-add_pool.ensures.1 in
    λ bad. refuses_pool c.args.draft.now c.args.text.now (λ name more named e.
    let fault : c.in_err-add_pool.field-0.0 ≡ Bad = cc in
    let read : c.from_vec-name.result ≡ c.in-Some.name.now = search rules in
    let same = name_is_front c.args.text.now c.in-Some.name.now c.in-Some.after.now name more c.in-Some.ensures named e in
    subst (λ n. Refuses c.args.draft.now (line.Pool n)) (read ∙ same) (c.in_err-add_pool.ensures.bad (ap Err fault)))
