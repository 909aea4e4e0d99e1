use Rattle.std.proofs.Common.{◌++◌, ◌∷◌, [], ap, ◌∙◌, append_assoc, codes, List, ℕ}
use Rattle.row_lang.proofs.PrintingLemmas.{front_kept, front_on}
use Rattle.row_lang.proofs.printing.push_system.Goals as goal

pub returns-in_err-push_statements-clause-front : goal.returns-in_err-push_statements-clause-front
returns-in_err-push_statements-clause-front c =
    let start = c.args.out.now.items in
    front_kept start ((codes "system " ++ c.as_slice.result.now) ++ 10 ∷ []) c.push.new.self.items c.push_statements.new.out.items
    (c.in_ok-push.ensures.items
    ∙ ap (λ (t : List ℕ). t ++ 10 ∷ []) (c.in_ok-extend_from_slice-2.ensures.items ∙ ap (λ (t : List ℕ). t ++ c.as_slice.result.now) c.in_ok-extend_from_slice.ensures.items ∙ append_assoc start (codes "system ") c.as_slice.result.now)
    ∙ append_assoc start (codes "system " ++ c.as_slice.result.now) (10 ∷ []))
    (front_on c.push.new.self.items c.push_lists.new.out.items c.push_statements.new.out.items c.in_ok-push_lists.ensures.front c.in_err-push_statements.ensures.front)
