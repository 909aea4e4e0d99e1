use Rattle.std.proofs.Common.{◌≡◌, true, false, refl, sym, ap, ◌∙◌, arith, rules}
use Rattle.std.specs.Prelude.{is_some, Some}
use Rattle.std.specs.List.{list_any}
use Rattle.std.specs.Str.{bytes_eq}
use Rattle.world_text.specs.LineKinds as line
use Rattle.world_text.specs.declared.section.Section.TheVariants as section
use Rattle.world_text.specs.Sections.{is_between}
use Rattle.world_text.specs.SystemLines.{SystemsSoFar}
use Rattle.world_text.specs.Fitting.{may_begin}
use Rattle.world_text.specs.Meaning.{decl_in, slot_in, next_in}
use Rattle.world_text.proofs.MeaningLemmas.{keeps, groups_keep, last_section_push, pools_in-other}
use Rattle.world_text.proofs.SettledLemmas.{settled_same}
use Rattle.world_text.proofs.SystemLemmas.{systems_push}
use Rattle.world_text.proofs.AddingLemmas.{and_true, not_true, below_test, placed_at, kept_tick}
use Rattle.world_text.proofs.system_adding.add_system.Goals as goal

pub returns-clause-ok : goal.returns-clause-ok
returns-clause-ok c =
    let name = c.args.name.now in
    let l = line.System c.args.name.now in
    let placed : is_between section.Version section.Systems c.args.draft.now.section ≡ true = search rules in
    let at_rest : is_some c.args.draft.now.unfinished ≡ false = search rules in
    let is_new : list_any (λ system. bytes_eq system.name c.args.name.now) c.args.draft.now.systems.items ≡ false = search rules in
    record {
      format = refl;
      fit = λ before s. and_true _ _ (placed_at section.Version section.Systems c.args.draft.now before s placed).fit
          (ap (λ (systems : SystemsSoFar). may_begin systems name) (sym s.systems)
          ∙ and_true _ _ (not_true _ at_rest) (and_true _ _ (below_test _ _ (omega arith)) (not_true _ is_new)));
      stands = λ before s.
          let p = placed_at section.Version section.Systems c.args.draft.now before s placed in
          record {
            section = sym (last_section_push before l p.high);
            decls = keeps decl_in before l _ refl s.decls;
            groups = s.groups ∙ groups_keep before l refl refl;
            systems = (λ i. record { closed = (s.systems i).closed; unfinished = Some (c.requires.begun i) }) ∙ sym (systems_push before l refl);
            tick = s.tick ∙ kept_tick before l refl;
            slots = keeps slot_in before l _ refl s.slots;
            free = keeps next_in before l _ refl s.free;
            settled = s.settled ∙ settled_same before l refl refl;
            pools = s.pools ∙ sym (pools_in-other _ before l tt);
          };
    }
