use Rattle.std.proofs.Common.{◌≡◌, ◌++◌, List, ℕ, ap, ◌∙◌, codes, append_assoc}
use Rattle.row_lang.specs.NameLists.{names_text, part_text}
use Rattle.world_text.proofs.group_printing.push_group.Goals as goal

five_parts : (start one two three four five a b d e f : List ℕ) → one ≡ start ++ a → two ≡ one ++ b → three ≡ two ++ d → four ≡ three ++ e → five ≡ four ++ f → five ≡ start ++ ((a ++ (b ++ (d ++ e))) ++ f)
five_parts start one two three four five a b d e f p q r s t =
    t ∙ ap (λ x. x ++ f) (s ∙ ap (λ x. x ++ e) (r ∙ ap (λ x. x ++ d) (q ∙ ap (λ x. x ++ b) p))) ∙ simp append_assoc

pub returns-clause-ok : goal.returns-clause-ok
returns-clause-ok c =
    let decls = c.args.decls.now in
    let group = c.args.group.now in
    let own : c.push_names.new.out.items ≡ c.extend_from_slice.new.self.items ++ names_text c.args.decls.now c.args.group.now.own =
    c.in_ok-push_names.ensures.ok ∙ ap (λ (pools : List ℕ). c.extend_from_slice.new.self.items ++ names_text decls pools) c.as_slice.ensures in
    let get : c.push_part.new.out.items ≡ c.push_names.new.out.items ++ part_text (codes " get") c.args.decls.now c.args.group.now.get =
    c.in_ok-push_part.ensures.ok ∙ ap (λ (pools : List ℕ). c.push_names.new.out.items ++ part_text (codes " get") decls pools) c.as_slice-2.ensures in
    let without : c.push_part-2.new.out.items ≡ c.push_part.new.out.items ++ part_text (codes " not") c.args.decls.now c.args.group.now.without =
    c.in_ok-push_part-2.ensures.ok ∙ ap (λ (pools : List ℕ). c.push_part.new.out.items ++ part_text (codes " not") decls pools) c.as_slice-3.ensures in
    five_parts _ _ _ _ _ _ (codes "group own") _ _ _ _ c.in_ok-extend_from_slice.ensures.items own get without c.in_ok-push.ensures.items
