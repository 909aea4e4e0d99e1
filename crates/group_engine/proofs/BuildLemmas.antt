-- What a group that is not refused tells of its lists and of the groups that it joins.
use Rattle.std.proofs.Common.{◌≡◌, ℕ, Bool, true, false, not, List, [], ◌∷◌, ◌++◌, length, Option, Some, None, refl, sym, ap, subst, ◌∙◌}
use Rattle.std.specs.Prelude.{if◌then◌else◌, Result, Ok, Err, OnOk, OnErr}
use Rattle.std.specs.List.{AllByRecursion}
use Rattle.std.specs.Option.{option_map, option_or}
use Rattle.std.proofs.lemmas.Option.{none-some}
use Rattle.entity_id.proofs.ListLemmas.{all-append}
use Rattle.world_model.specs.declared.group.GroupDecl.{GroupDecl}
use Rattle.world_model.specs.declared.refusal.Refusal.TheVariants as refusal
use Rattle.world_model.specs.Groups.{group_pools, are_declared, is_well_formed, AreLawfulGroups}
use Rattle.group_rules.specs.declared.refused.DeclRefused.TheVariants.{NoPool, BadDecl}
use Rattle.group_rules.specs.declared.refused.FamilyRefused.{FamilyRefused}
use Rattle.group_rules.specs.Families.{AreLawfulTogether, add_refusal}
use Rattle.group_rules.specs.Refusals.{of_decl, of_family}
use Rattle.group_engine.specs.Engine.{Groups, build_refusal}
use Rattle.group_engine.specs.Families.{IsOrdered}
use Rattle.group_engine.specs.declared.marking.Masks.{Masks}
use Rattle.group_engine.specs.Layout.{IsKept}
use Rattle.group_engine.specs.Masks.{AreMarked}

parts_of : (declared formed : Bool) (r : Option FamilyRefused) → option_or (option_map of_decl (if not declared then Some NoPool else (if not formed then Some BadDecl else None))) (option_map of_family r) ≡ None → (declared ≡ true) × (formed ≡ true) × (r ≡ None)
parts_of false formed r h = absurd (none-some refusal.NoPool (sym h))
parts_of true false r h = absurd (none-some refusal.BadDecl (sym h))
parts_of true true (Some cause) h = absurd (none-some (of_family cause) (sym h))
parts_of true true None h = (refl, refl, refl)

-- it names pools that are there, is well-formed, and the family takes it
pub accepted_parts : (groups : Groups) (decl : GroupDecl) → build_refusal groups decl ≡ None → (are_declared groups.pools (group_pools decl) ≡ true) × (is_well_formed decl ≡ true) × (add_refusal groups.decls decl ≡ None)
accepted_parts groups decl h = parts_of (are_declared groups.pools (group_pools decl)) (is_well_formed decl) (add_refusal groups.decls decl) h

-- lawful groups, and one more that the family took
one_more : (pools : ℕ) (old new : List GroupDecl) (decl : GroupDecl) → AreLawfulGroups pools old → are_declared pools (group_pools decl) ≡ true → new ≡ old ++ decl ∷ [] → AreLawfulTogether new → AreLawfulGroups pools new
one_more pools old new decl h named is together =
    let each = all-append (λ d. are_declared pools (group_pools d) ≡ true) old (decl ∷ []) h.declared (named, tt) in
    record { few = together.few; declared = subst (AllByRecursion (λ d. are_declared pools (group_pools d) ≡ true)) (sym is) each; well_formed = together.well_formed; coexist = together.coexist }

-- what is kept of the groups once a call added one, or refused it
pub kept_after : {E : Type 0} (r : Result ℕ E) (pools : ℕ) (old new : List GroupDecl) (lens lens' order order' : List ℕ) (masks masks' : Masks) (decl : GroupDecl)
    → IsKept (record { decls = old; lens = lens; pools = pools }) order masks → are_declared pools (group_pools decl) ≡ true
    → OnOk r (new ≡ old ++ decl ∷ []) → OnOk r (AreLawfulTogether new) → OnOk r (IsOrdered new order') → OnOk r (length lens' ≡ length new)
    → OnErr r (new ≡ old) → OnErr r (order' ≡ order) → OnErr r (lens' ≡ lens) → AreMarked masks' new order' pools → IsKept (record { decls = new; lens = lens'; pools = pools }) order' masks'
kept_after (Ok number) pools old new lens lens' order order' masks masks' decl kept there is together ordered each same_decls same_order same_lens marked =
    record { lawful = one_more pools old new decl kept.lawful there is together; each = each; ordered = ordered; marked = marked }
kept_after (Err cause) pools old new lens lens' order order' masks masks' decl kept there is together ordered each same_decls same_order same_lens marked = record {
  lawful = subst (AreLawfulGroups pools) (sym same_decls) kept.lawful;
  each = ap length same_lens ∙ kept.each ∙ sym (ap length same_decls);
  ordered = subst (λ l. IsOrdered l order') (sym same_decls) (subst (IsOrdered old) (sym same_order) kept.ordered);
  marked = marked;
}
