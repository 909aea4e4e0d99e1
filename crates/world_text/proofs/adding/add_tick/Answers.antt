use Rattle.std.proofs.Common.{◌≡◌, true, false, not, refl, sym, ap, ◌∙◌, arith, rules}
use Rattle.std.specs.Prelude.{is_some}
use Rattle.world_text.specs.SystemLines.{SystemsSoFar}
use Rattle.world_text.specs.Fitting.{is_unfinished}
use Rattle.world_text.specs.LineKinds as line
use Rattle.world_text.specs.declared.section.Section.TheVariants as section
use Rattle.world_text.specs.Sections.{is_between}
use Rattle.world_text.specs.Meaning.{decl_in, slot_in, next_in}
use Rattle.world_text.proofs.MeaningLemmas.{keeps, groups_keep, last_section_push, pools_in-other}
use Rattle.world_text.proofs.SettledLemmas.{settled_same}
use Rattle.world_text.proofs.SystemLemmas.{systems_keep}
use Rattle.world_text.proofs.AddingLemmas.{and_true, and_false_right, not_true, placed_at, first_tick}
use Rattle.world_text.proofs.adding.add_tick.Goals as goal

pub returns-clause-ok : goal.returns-clause-ok
returns-clause-ok c =
    let l = line.Tick c.args.tick in
    let placed : is_between section.Version section.Systems c.args.draft.now.section ≡ true = search rules in
    let at_rest : is_some c.args.draft.now.unfinished ≡ false = search rules in
    record {
      format = refl;
      fit = λ before s. and_true _ _ (placed_at section.Version section.Systems c.args.draft.now before s placed).fit (not_true _ (ap (λ (systems : SystemsSoFar). is_unfinished systems) (sym s.systems) ∙ at_rest));
      stands = λ before s.
          let p = placed_at section.Version section.Systems c.args.draft.now before s placed in
          record {
            section = sym (last_section_push before l (omega (arith, p.high)));
            decls = keeps decl_in before l _ refl s.decls;
            groups = s.groups ∙ groups_keep before l refl refl;
            systems = s.systems ∙ systems_keep before l refl tt;
            tick = first_tick before c.args.tick (omega (arith, p.high));
            slots = keeps slot_in before l _ refl s.slots;
            free = keeps next_in before l _ refl s.free;
            settled = s.settled ∙ settled_same before l refl refl;
            pools = s.pools ∙ sym (pools_in-other _ before l tt);
          };
    }

pub returns-then-is_some-clause-bad : goal.returns-then-is_some-clause-bad
returns-then-is_some-clause-bad c = λ bad before s.
    let going : is_some c.args.draft.now.unfinished ≡ true = search rules in
    and_false_right _ _ (ap (λ (systems : SystemsSoFar). not (is_unfinished systems)) (sym s.systems) ∙ ap not going)
