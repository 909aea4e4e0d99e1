use Rattle.std.proofs.Common.{◌≡◌, true, false, not, get_or, set, refl, sym, ap, ◌∙◌, rules}
use Rattle.world_text.specs.LineKinds as line
use Rattle.world_text.specs.declared.section.Section.TheVariants as section
use Rattle.world_text.specs.Sections.{is_between}
use Rattle.world_text.specs.Meaning.{decl_in, slot_in, next_in}
use Rattle.world_text.proofs.MeaningLemmas.{gains, keeps, groups_keep, last_section_push, pools_in-other}
use Rattle.world_text.proofs.SettledLemmas.{settled_next, unlisted_by_flag}
use Rattle.world_text.proofs.SystemLemmas.{systems_keep}
use Rattle.world_text.proofs.AddingLemmas.{and_true, and_false_right, not_true, placed_at, kept_tick}
use Rattle.world_text.proofs.adding.add_next.Goals as goal

pub returns-clause-ok : goal.returns-clause-ok
returns-clause-ok c =
    let l = line.Next c.args.index in
    let placed : is_between section.Tick section.FreeList c.args.draft.now.section ≡ true = search rules in
    let is_open : get_or c.args.draft.now.settled.items c.args.index true ≡ false = search rules in
    record {
      format = refl;
      fit = λ before s. (and_true _ _ (placed_at section.Tick section.FreeList c.args.draft.now before s placed).fit (sym (unlisted_by_flag before c.args.index) ∙ not_true _ (ap (λ flags. get_or flags c.args.index true) (sym s.settled) ∙ is_open)));
      stands = λ before s.
          let p = placed_at section.Tick section.FreeList c.args.draft.now before s placed in
          record {
            section = sym (last_section_push before l p.high);
            decls = keeps decl_in before l _ refl s.decls;
            groups = s.groups ∙ groups_keep before l refl refl;
            systems = s.systems ∙ systems_keep before l refl tt;
            tick = s.tick ∙ kept_tick before l refl;
            slots = keeps slot_in before l _ refl s.slots;
            free = c.in_ok-push.ensures.items ∙ gains next_in before l _ s.free;
            settled = ap (λ flags. set flags c.args.index true) s.settled ∙ settled_next before c.args.index;
            pools = s.pools ∙ sym (pools_in-other _ before l tt);
          };
    }

pub returns-then-is_settled-clause-bad : goal.returns-then-is_settled-clause-bad
returns-then-is_settled-clause-bad c = λ bad before s.
    let named : get_or c.args.draft.now.settled.items c.args.index true ≡ true = search rules in
    and_false_right _ _ (sym (unlisted_by_flag before c.args.index) ∙ ap not (ap (λ flags. get_or flags c.args.index true) (sym s.settled) ∙ named))
