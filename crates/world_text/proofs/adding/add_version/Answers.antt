use Rattle.std.proofs.Common.{◌≡◌, true, refl, sym, ◌∙◌, arith, rules}
use Rattle.world_text.specs.LineKinds as line
use Rattle.world_text.specs.declared.section.Section.TheVariants as section
use Rattle.world_text.specs.Sections.{is_between}
use Rattle.world_text.specs.Meaning.{decl_in, slot_in, next_in}
use Rattle.world_text.proofs.MeaningLemmas.{keeps, groups_keep, last_section_push, pools_in-other}
use Rattle.world_text.proofs.SettledLemmas.{settled_same}
use Rattle.world_text.proofs.SystemLemmas.{systems_keep}
use Rattle.world_text.proofs.AddingLemmas.{placed_at, kept_tick}
use Rattle.world_text.proofs.adding.add_version.Goals as goal

pub returns-clause-ok : goal.returns-clause-ok
returns-clause-ok c =
    let l = line.Version in
    let placed : is_between section.Start section.Start c.args.draft.now.section ≡ true = search rules in
    record {
      format = refl;
      fit = λ before s. (placed_at section.Start section.Start c.args.draft.now before s placed).fit;
      stands = λ before s.
          let p = placed_at section.Start section.Start c.args.draft.now before s placed in
          record {
            section = sym (last_section_push before l (omega (arith, p.high)));
            decls = keeps decl_in before l _ refl s.decls;
            groups = s.groups ∙ groups_keep before l refl refl;
            systems = s.systems ∙ systems_keep before l refl tt;
            tick = s.tick ∙ kept_tick before l refl;
            slots = keeps slot_in before l _ refl s.slots;
            free = keeps next_in before l _ refl s.free;
            settled = s.settled ∙ settled_same before l refl refl;
            pools = s.pools ∙ sym (pools_in-other _ before l tt);
          };
    }
