use Rattle.std.proofs.Common.{◌++◌, ◌∷◌, [], ap, ◌∙◌, append_assoc, List, ℕ}
use Rattle.row_lang.proofs.PrintingLemmas.{front_kept}
use Rattle.row_lang.proofs.printing.push_names.Goals as goal

pub returns-in_err-push_name-clause-front : goal.returns-in_err-push_name-clause-front
returns-in_err-push_name-clause-front c =
    front_kept c.args.out.now.items _ c.push.new.self.items c.push_name.new.out.items
    (c.in_ok-push.ensures.items ∙ ap (λ (t : List ℕ). t ++ 32 ∷ []) c.loop-pool.invariant ∙ append_assoc c.args.out.now.items _ (32 ∷ []))
    c.in_err-push_name.ensures.front
