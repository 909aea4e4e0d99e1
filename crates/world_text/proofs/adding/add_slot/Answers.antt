use Rattle.std.proofs.Common.{◌≡◌, ◌+◌, cond, zero-add, ◌++◌, ◌∷◌, [], true, not, length, refl, sym, ap, ◌∙◌, arith, rules}
use Rattle.world_text.specs.LineKinds as line
use Rattle.world_text.specs.declared.section.Section.TheVariants as section
use Rattle.world_text.specs.Sections.{is_between}
use Rattle.world_text.specs.Meaning.{decl_in, slot_in, next_in}
use Rattle.world_text.proofs.MeaningLemmas.{gains, keeps, groups_keep, last_section_push, pools_in-other}
use Rattle.world_text.proofs.SettledLemmas.{settled_slot}
use Rattle.world_text.proofs.SystemLemmas.{systems_keep}
use Rattle.world_text.proofs.AddingLemmas.{and_true, below_test, placed_at, kept_tick}
use Rattle.std.specs.Prelude.{count_by}
use Rattle.std.proofs.lemmas.List.Sums.{sum_by-append}
use Rattle.world_text.proofs.adding.add_slot.Goals as goal

pub returns-clause-ok : goal.returns-clause-ok
returns-clause-ok c =
    let l = line.Slot c.args.slot in
    let placed : is_between section.Tick section.Slots c.args.draft.now.section ≡ true = search rules in
    record {
      format = refl;
      fit = λ before s. (and_true _ _ (placed_at section.Tick section.Slots c.args.draft.now before s placed).fit (below_test _ _ (omega (arith, ap length s.slots))));
      stands = λ before s.
          let p = placed_at section.Tick section.Slots c.args.draft.now before s placed in
          record {
            section = sym (last_section_push before l p.high);
            decls = keeps decl_in before l _ refl s.decls;
            groups = s.groups ∙ groups_keep before l refl refl;
            systems = s.systems ∙ systems_keep before l refl tt;
            tick = s.tick ∙ kept_tick before l refl;
            slots = c.in_ok-push.ensures.items ∙ gains slot_in before l _ s.slots;
            free = keeps next_in before l _ refl s.free;
            settled = c.in_ok-push-2.ensures.items ∙ ap (λ flags. flags ++ c.args.slot.live ∷ []) s.settled ∙ settled_slot before c.args.slot (omega (arith, p.high));
            pools = s.pools ∙ sym (pools_in-other _ before l tt);
          };
    }

pub invariant_of-draft-2-clause-named : goal.invariant_of-draft-2-clause-named
invariant_of-draft-2-clause-named c = c.args.draft.now.named

pub invariant_of-draft-2-clause-commanded : goal.invariant_of-draft-2-clause-commanded
invariant_of-draft-2-clause-commanded c = c.args.draft.now.commanded

pub invariant_of-draft-2-clause-counted : goal.invariant_of-draft-2-clause-counted
invariant_of-draft-2-clause-counted c =
    let pushed : count_by not c.push-2.new.self.items ≡ count_by not c.args.draft.now.settled.items + count_by not (c.args.slot.live ∷ []) = ap (count_by not) c.in_ok-push-2.ensures.items ∙ sum_by-append _ c.args.draft.now.settled.items (c.args.slot.live ∷ []) in
    let one : count_by not (c.args.slot.live ∷ []) ≡ cond (not c.args.slot.live) 1 0 = zero-add _ in
    omega (arith, pushed, one, c.count_of_free.ensures, c.args.draft.now.counted)
