use Rattle.std.proofs.Common.{◌≡◌, ◌==◌, ◌++◌, ◌∷◌, [], ℕ, List, true, length, Err, sym, ap, subst, ◌∙◌, arith}
use Rattle.std.proofs.lemmas.Result.{err_from_is_err_and}
use Rattle.row_lang.specs.declared.fault.LineFault.TheVariants.{Bad}
use Rattle.world_text.specs.declared.script.ScriptLine.TheVariants.{Run}
use Rattle.world_text.specs.Formats.{version_1}
use Rattle.world_text.specs.Scripts.{IsLineFirst}
use Rattle.world_text.proofs.OneLineLemmas.{one_line}
use Rattle.world_text.proofs.single.read_command.Goals as goal

pub returns-in_err-line-clause-bad : goal.returns-in_err-line-clause-bad
returns-in_err-line-clause-bad c =
    let p = err_from_is_err_and c.from_residual-in_err-line.result c.from_residual-in_err-line.ensures.1 in
    let spelled : c.deref.result.now ≡ c.args.line.now ++ 10 ∷ [] = c.deref.ensures.value ∙ c.in_ok-push.ensures.items ∙ ap (λ (t : List ℕ). t ++ 10 ∷ []) c.in_ok-text.ensures.items in
    λ bad command h.
    let fault : c.in_err-line.field-0.0 ≡ Bad = cc in
    c.in_err-line.ensures.bad (ap Err fault) (Run command) [] (subst (λ (t : List ℕ). IsLineFirst version_1.profile c.args.decls.now t (Run command) []) (sym spelled) h)

pub returns-then-not-is_empty-clause-bad : goal.returns-then-not-is_empty-clause-bad
returns-then-not-is_empty-clause-bad c =
    let spelled : c.deref.result.now ≡ c.args.line.now ++ 10 ∷ [] = c.deref.ensures.value ∙ c.in_ok-push.ensures.items ∙ ap (λ (t : List ℕ). t ++ 10 ∷ []) c.in_ok-text.ensures.items in
    λ _ command h.
    let same = one_line version_1.profile c.args.decls.now c.deref.result.now c.in_ok-line.rest.now [] c.in_ok-line.line (Run command) (record { index = omega arith; version = omega arith }) c.in_ok-line.ensures.ok
    (subst (λ (t : List ℕ). IsLineFirst version_1.profile c.args.decls.now t (Run command) []) (sym spelled) h) in
    let empty : c.is_empty.result ≡ true = c.is_empty.ensures ∙ ap (λ (t : List ℕ). length t == 0) same.0 in
    absurd cc
