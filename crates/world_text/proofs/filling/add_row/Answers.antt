use Rattle.std.proofs.Common.{◌≡◌, ◌++◌, ◌∷◌, ◌-◌, [], true, false, length, slice_get, get_or, set, refl, sym, ap, ◌∙◌, rules}
use Rattle.std.specs.Option.{option_map_or}
use Rattle.std.proofs.lemmas.Result.{on_ok_weaker}
use Rattle.world_model.specs.Slots.{is_live}
use Rattle.world_text.specs.LineKinds as line
use Rattle.world_text.specs.declared.section.Section.TheVariants as section
use Rattle.world_text.specs.Sections.{is_between}
use Rattle.world_text.specs.Fitting.{is_above, goes_on_last}
use Rattle.world_text.specs.Meaning.{decl_in, slot_in, next_in}
use Rattle.world_text.proofs.MeaningLemmas.{keeps, groups_keep, last_section_push, pools_in-row}
use Rattle.world_text.proofs.SettledLemmas.{settled_same}
use Rattle.world_text.proofs.SystemLemmas.{systems_keep}
use Rattle.world_text.proofs.AddingLemmas.{and_true, only_pools, placed_at, kept_tick}
use Rattle.world_text.proofs.filling.add_row.Goals as goal

pub returns-clause-ok : goal.returns-clause-ok
returns-clause-ok c =
    let draft = c.args.draft.now in
    let entity = c.args.entity in
    let profile = c.args.draft.now.format.profile in
    let placed : is_between section.Pools section.Pools c.args.draft.now.section ≡ true = search rules in
    let live : is_live c.args.draft.now.slots.items c.args.entity ≡ true = search rules in
    let above : option_map_or (λ rows. is_above rows c.args.entity) (slice_get c.args.draft.now.pools.items (length c.args.draft.now.pools.items - 1)) false ≡ true = search rules in
    on_ok_weaker c.push_on_last.result (λ pushed values held of_kinds.
    let l = line.Row entity values in
    let goes : goes_on_last c.args.draft.now.decls.items c.args.draft.now.pools.items c.args.entity values ≡ true = and_true _ _ above of_kinds in
    record {
      format = refl;
      fit = λ before s. and_true _ _ (placed_at section.Pools section.Pools c.args.draft.now before s placed).fit
          (and_true _ _ (ap (λ slots. is_live slots entity) (sym s.slots) ∙ live)
          ((λ i. goes_on_last (sym s.decls i) (sym s.pools i) entity values) ∙ goes));
      stands = λ before s.
          let p = placed_at section.Pools section.Pools c.args.draft.now before s placed in
          record {
            section = only_pools draft.section placed ∙ sym (last_section_push before l p.high);
            decls = keeps decl_in before l _ refl s.decls;
            groups = s.groups ∙ groups_keep before l refl refl;
            systems = s.systems ∙ systems_keep before l refl tt;
            tick = s.tick ∙ kept_tick before l refl;
            slots = keeps slot_in before l _ refl s.slots;
            free = keeps next_in before l _ refl s.free;
            settled = s.settled ∙ settled_same before l refl refl;
            pools = pushed ∙ (λ i. set (s.pools i) (length (s.pools i) - 1) (get_or (s.pools i) (length (s.pools i) - 1) [] ++ (entity, held i) ∷ [])) ∙ sym (pools_in-row profile before entity values);
          };
    }) c.push_on_last.ensures.ok
