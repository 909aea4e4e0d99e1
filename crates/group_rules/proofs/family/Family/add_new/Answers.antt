use Rattle.std.proofs.Common.{◌≡◌, None, ap, ◌∙◌}
use Rattle.group_rules.specs.Families.{AreLawfulTogether, same_in, add_refusal}
use Rattle.group_rules.proofs.AddLemmas.{none_conflicts, there_is_room}
use Rattle.group_rules.proofs.FamilyLemmas.{lawful_push}
use Rattle.group_rules.proofs.family.Family.add_new.Goals as goal

lawful : (c : goal.In_ok-push) → AreLawfulTogether c.push.new.self.items
lawful c =
    let groups = c.self.inside.decls.items in
    let fresh : same_in groups c.args.decl ≡ None = ap (λ l. same_in l c.args.decl) c.self.view_is ∙ c.requires.new in
    let fits : add_refusal groups c.args.decl ≡ None = ap (λ l. add_refusal l c.args.decl) c.self.view_is ∙ c.requires.accepted in
    rw c.in_ok-push.ensures.items (lawful_push groups c.args.decl c.self.invariant c.requires.formed fresh (none_conflicts groups c.args.decl fresh fits) (there_is_room groups c.args.decl fresh fits))

pub invariant_of-self-2 : goal.invariant_of-self-2
invariant_of-self-2 c = lawful c

pub returns-clause-lawful : goal.returns-clause-lawful
returns-clause-lawful c = lawful c
