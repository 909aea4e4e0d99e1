use Rattle.std.proofs.Common.{◌≡◌, ◌++◌, ◌∷◌, [], ℕ, List, Err, ap, subst, ◌∙◌}
use Rattle.std.proofs.lemmas.Result.{err_from_is_err_and}
use Rattle.row_lang.specs.declared.fault.LineFault.TheVariants.{Bad}
use Rattle.world_text.specs.Drafts.{TakesLine}
use Rattle.world_text.specs.Headers.{HeaderSoFar, TakesHeaderLine, RefusesHeaderLine, RefusesHeaders, header_in}
use Rattle.world_text.proofs.HeaderLemmas.{taken_header, refused_header, refused_cut}
use Rattle.world_text.proofs.header.HeaderDraft.add.Goals as goal

pub returns-in-Some-clause-bad : goal.returns-in-Some-clause-bad
returns-in-Some-clause-bad c = λ bad. refused_cut c.args.self.now c.args.line.now _ _ c.in-Some.ensures

pub returns-in_err-read_header_line-clause-bad : goal.returns-in_err-read_header_line-clause-bad
returns-in_err-read_header_line-clause-bad c =
    let p = err_from_is_err_and c.from_residual-in_err-read_header_line.result c.from_residual-in_err-read_header_line.ensures.1 in
    λ bad.
    let fault : c.in_err-read_header_line.field-0.0 ≡ Bad = cc in
    let text : c.deref.result.now ≡ c.args.line.now ++ 10 ∷ [] = c.deref.ensures.value ∙ c.in_ok-push.ensures.items ∙ ap (λ (t : List ℕ). t ++ 10 ∷ []) c.in_ok-text.ensures.items in
    subst (λ (h : HeaderSoFar). RefusesHeaderLine h c.args.line.now) c.self.view_is
    (refused_header c.self.inside.draft c.args.line.now c.self.invariant (subst (RefusesHeaders c.self.inside.draft) text (c.in_err-read_header_line.ensures.bad (ap Err fault))))

pub returns-clause-ok : goal.returns-clause-ok
returns-clause-ok c =
    let text : c.deref.result.now ≡ c.args.line.now ++ 10 ∷ [] = c.deref.ensures.value ∙ c.in_ok-push.ensures.items ∙ ap (λ (t : List ℕ). t ++ 10 ∷ []) c.in_ok-text.ensures.items in
    subst (λ (h : HeaderSoFar). TakesHeaderLine h c.args.line.now (header_in c.read_header_line.new.draft)) c.self.view_is
    (taken_header c.self.inside.draft c.read_header_line.new.draft c.args.line.now _ c.self.invariant c.in_ok-read_header_line.ensures.others c.in_default.ensures
    (subst (λ (t : List ℕ). TakesLine c.self.inside.draft t c.in_ok-read_header_line.field-0.now c.read_header_line.new.draft) text c.in_ok-read_header_line.ensures.ok))
