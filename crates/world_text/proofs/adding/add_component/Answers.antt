use Rattle.std.proofs.Common.{◌≡◌, true, false, length, refl, sym, ap, subst, ◌∙◌, arith, rules}
use Rattle.world_model.specs.Components.{has_name}
use Rattle.world_text.specs.LineKinds as line
use Rattle.world_text.specs.declared.section.Section.TheVariants as section
use Rattle.world_text.specs.Sections.{is_between}
use Rattle.std.specs.List.{list_any}
use Rattle.world_text.specs.Meaning.{decl_in, slot_in, next_in}
use Rattle.world_text.proofs.MeaningLemmas.{gains, keeps, groups_before, no_group_yet, last_section_push, pools_in-other}
use Rattle.world_text.proofs.SettledLemmas.{settled_same}
use Rattle.row_lang.specs.Naming.{AreNamedDecls}
use Rattle.world_text.proofs.NamedLemmas.{named_with}
use Rattle.world_text.proofs.SystemLemmas.{systems_before}
use Rattle.world_text.proofs.AddingLemmas.{and_true, below_test, not_true, placed_at, kept_tick}
use Rattle.world_text.proofs.adding.add_component.Goals as goal

pub returns-clause-ok : goal.returns-clause-ok
returns-clause-ok c =
    let l = line.Component c.args.decl in
    let placed : is_between section.Version section.Components c.args.draft.now.section ≡ true = search rules in
    let is_new : list_any (has_name c.args.decl.name) c.args.draft.now.decls.items ≡ false = search rules in
    record {
      format = refl;
      fit = λ before s. (and_true _ _ (placed_at section.Version section.Components c.args.draft.now before s placed).fit (and_true _ _ (below_test _ _ (omega (arith, ap length s.decls))) (not_true _ (ap (list_any (has_name c.args.decl.name)) (sym s.decls) ∙ is_new))));
      stands = λ before s.
          let p = placed_at section.Version section.Components c.args.draft.now before s placed in
          record {
            section = sym (last_section_push before l p.high);
            decls = c.in_ok-push.ensures.items ∙ gains decl_in before l _ s.decls;
            groups = s.groups ∙ groups_before before c.args.decl (no_group_yet before (omega (arith, p.high)));
            systems = s.systems ∙ systems_before before c.args.decl (omega (arith, p.high));
            tick = s.tick ∙ kept_tick before l refl;
            slots = keeps slot_in before l _ refl s.slots;
            free = keeps next_in before l _ refl s.free;
            settled = s.settled ∙ settled_same before l refl refl;
            pools = s.pools ∙ sym (pools_in-other _ before l tt);
          };
    }

pub invariant_of-draft-2-clause-named : goal.invariant_of-draft-2-clause-named
invariant_of-draft-2-clause-named c =
    let is_new : list_any (has_name c.args.decl.name) c.args.draft.now.decls.items ≡ false = search rules in
    let named = c.args.draft.now.named in
    subst AreNamedDecls (sym c.in_ok-push.ensures.items) (named_with c.args.draft.now.decls.items c.args.decl c.requires (omega arith) is_new named)
