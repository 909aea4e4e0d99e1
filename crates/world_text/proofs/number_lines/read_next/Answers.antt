use Rattle.std.proofs.Common.{◌≡◌, Err, ap, subst, arith}
use Rattle.std.proofs.lemmas.Result.{err_from_is_err_and}
use Rattle.world_text.specs.LineKinds as line
use Rattle.world_text.specs.Drafts.{Refuses}
use Rattle.row_lang.specs.declared.fault.LineFault.TheVariants.{Bad}
use Rattle.world_text.proofs.PartLemmas.{refuses_next, same_number_line}
use Rattle.world_text.proofs.number_lines.read_next.Goals as goal

pub returns-then-index-draft-clause-bad : goal.returns-then-index-draft-clause-bad
returns-then-index-draft-clause-bad c = λ bad.
    refuses_next c.args.draft.now c.args.text.now (λ index more below e.
    let same = same_number_line c.from.result c.in-Some.index index c.args.text.now c.in-Some.after.now more (omega arith) c.in-Some.ensures.some (record { within = omega (arith, c.from.ensures); whole = e }) in
    absurd (omega (arith, same, c.if-index-draft.true)))

pub returns-in_err-add_next-clause-bad : goal.returns-in_err-add_next-clause-bad
returns-in_err-add_next-clause-bad c =
    let p = err_from_is_err_and c.from_residual.result c.from_residual.ensures.1 in
    λ bad. refuses_next c.args.draft.now c.args.text.now (λ index more below e.
    let fault : c.in_err-add_next.field-0.0 ≡ Bad = cc in
    let same = same_number_line c.from.result c.in-Some.index index c.args.text.now c.in-Some.after.now more (omega arith) c.in-Some.ensures.some (record { within = omega (arith, c.from.ensures); whole = e }) in
    subst (λ n. Refuses c.args.draft.now (line.Next n)) same (c.in_err-add_next.ensures.bad (ap Err fault)))
