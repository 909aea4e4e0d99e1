use Rattle.std.proofs.Common.{◌≡◌, ◌++◌, ◌∷◌, [], true, false, length, refl, sym, ap, ◌∙◌, arith, rules, slice_get}
use Rattle.std.specs.List.{list_all}
use Rattle.std.specs.Option.{option_map_or}
use Rattle.world_model.specs.Components.{has_name}
use Rattle.world_text.specs.LineKinds as line
use Rattle.world_text.specs.declared.section.Section.TheVariants as section
use Rattle.world_text.specs.Sections.{is_between}
use Rattle.world_text.specs.Meaning.{decl_in, slot_in, next_in}
use Rattle.world_text.proofs.MeaningLemmas.{keeps, groups_keep, last_section_push, pools_in-pool}
use Rattle.world_text.proofs.SettledLemmas.{settled_same, none_unsettled, some_unsettled}
use Rattle.world_text.proofs.SystemLemmas.{systems_keep}
use Rattle.world_text.proofs.AddingLemmas.{and_true, and_false_left, and_false_right, placed_at, kept_tick}
use Rattle.world_text.proofs.filling.add_pool.Goals as goal

pub returns-then-draft-ne0-clause-bad : goal.returns-then-draft-ne0-clause-bad
returns-then-draft-ne0-clause-bad c = λ bad before s.
    and_false_right _ _ (and_false_left _ _ (ap (list_all (λ flag. flag)) (sym s.settled) ∙ some_unsettled c.args.draft.now.settled.items (λ none. c.if-draft-ne0.true (c.args.draft.now.counted ∙ none))))

pub returns-clause-ok : goal.returns-clause-ok
returns-clause-ok c =
    let draft = c.args.draft.now in
    let l = line.Pool c.args.name in
    let placed : is_between section.Tick section.Pools c.args.draft.now.section ≡ true = search rules in
    let size : length c.args.draft.now.pools.items ≡ c.len.result = search rules in
    let named : option_map_or (has_name c.args.name) (slice_get c.args.draft.now.decls.items (length c.args.draft.now.pools.items)) false ≡ true =
    (λ i. option_map_or (has_name (sym c.as_slice.ensures i)) (slice_get (sym c.deref.ensures.value i) (size i)) false) ∙ sym c.has_name_at.ensures ∙ search rules in
    record {
      format = refl;
      fit = λ before s. and_true _ _ (placed_at section.Tick section.Pools c.args.draft.now before s placed).fit
          (and_true _ _ (ap (list_all (λ flag. flag)) (sym s.settled) ∙ none_unsettled c.args.draft.now.settled.items (omega (arith, c.args.draft.now.counted)))
          ((λ i. option_map_or (has_name c.args.name) (slice_get (sym s.decls i) (length (sym s.pools i))) false) ∙ named));
      stands = λ before s.
          let p = placed_at section.Tick section.Pools c.args.draft.now before s placed in
          record {
            section = sym (last_section_push before l p.high);
            decls = keeps decl_in before l _ refl s.decls;
            groups = s.groups ∙ groups_keep before l refl refl;
            systems = s.systems ∙ systems_keep before l refl tt;
            tick = s.tick ∙ kept_tick before l refl;
            slots = keeps slot_in before l _ refl s.slots;
            free = keeps next_in before l _ refl s.free;
            settled = s.settled ∙ settled_same before l refl refl;
            pools = c.in_ok-push.ensures.items ∙ ap (λ rows. draft.pools.items ++ rows ∷ []) (c.from_vec.ensures ∙ c.new.ensures.items) ∙ ap (λ pools. pools ++ [] ∷ []) s.pools ∙ sym (pools_in-pool _ before c.args.name);
          };
    }
