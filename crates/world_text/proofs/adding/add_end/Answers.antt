use Rattle.std.proofs.Common.{◌≡◌, true, length, refl, sym, ap, ◌∙◌, arith, rules}
use Rattle.world_text.specs.LineKinds as line
use Rattle.world_text.specs.declared.section.Section.TheVariants as section
use Rattle.world_text.specs.Sections.{is_between}
use Rattle.std.specs.List.{list_all}
use Rattle.world_text.specs.Meaning.{decl_in, slot_in, next_in}
use Rattle.world_text.proofs.MeaningLemmas.{keeps, groups_keep, last_section_push, pools_in-other}
use Rattle.world_text.proofs.SettledLemmas.{settled_same, none_unsettled, some_unsettled}
use Rattle.world_text.proofs.SystemLemmas.{systems_keep}
use Rattle.world_text.proofs.AddingLemmas.{and_true, and_false_left, and_false_right, equal_test, placed_at, kept_tick}
use Rattle.world_text.proofs.adding.add_end.Goals as goal

pub returns-clause-ok : goal.returns-clause-ok
returns-clause-ok c =
    let l = line.End in
    let placed : is_between section.Tick section.Pools c.args.draft.now.section ≡ true = search rules in
    record {
      format = refl;
      fit = λ before s. and_true _ _ (placed_at section.Tick section.Pools c.args.draft.now before s placed).fit (and_true _ _ (ap (list_all (λ flag. flag)) (sym s.settled) ∙ none_unsettled c.args.draft.now.settled.items (omega (arith, c.args.draft.now.counted))) (equal_test _ _ (omega (arith, ap length s.pools, ap length s.decls))));
      stands = λ before s.
          let p = placed_at section.Tick section.Pools c.args.draft.now before s placed in
          record {
            section = sym (last_section_push before l (omega (arith, p.high)));
            decls = keeps decl_in before l _ refl s.decls;
            groups = s.groups ∙ groups_keep before l refl refl;
            systems = s.systems ∙ systems_keep before l refl tt;
            tick = s.tick ∙ kept_tick before l refl;
            slots = keeps slot_in before l _ refl s.slots;
            free = keeps next_in before l _ refl s.free;
            settled = s.settled ∙ settled_same before l refl refl;
            pools = s.pools ∙ sym (pools_in-other _ before l tt);
          };
    }

pub returns-then-draft-ne0-clause-bad : goal.returns-then-draft-ne0-clause-bad
returns-then-draft-ne0-clause-bad c = λ bad before s.
    and_false_right _ _ (and_false_left _ _ (ap (list_all (λ flag. flag)) (sym s.settled) ∙ some_unsettled c.args.draft.now.settled.items (λ none. c.if-draft-ne0.true (c.args.draft.now.counted ∙ none))))
