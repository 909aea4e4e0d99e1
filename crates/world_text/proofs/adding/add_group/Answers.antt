use Rattle.std.proofs.Common.{◌≡◌, true, false, ◌&&◌, ◌++◌, ◌∷◌, [], length, refl, sym, ap, ◌∙◌, rules}
use Rattle.std.proofs.lemmas.Bool.{and_parts}
use Rattle.world_model.specs.Groups.{are_declared, group_pools}
use Rattle.world_text.specs.LineKinds as line
use Rattle.world_text.specs.declared.section.Section.TheVariants as section
use Rattle.world_text.specs.Sections.{is_between}
use Rattle.world_text.specs.Fitting.{are_listed, may_join}
use Rattle.world_text.specs.Meaning.{decl_in, slot_in, next_in, group_of}
use Rattle.world_text.proofs.MeaningLemmas.{keeps, groups_gain, last_section_push, pools_in-other}
use Rattle.world_text.proofs.SettledLemmas.{settled_same}
use Rattle.world_text.proofs.SystemLemmas.{systems_keep}
use Rattle.world_text.proofs.AddingLemmas.{and_true, and_false_right, placed_at, kept_tick}
use Rattle.world_text.proofs.GroupLemmas.{group_declared}
use Rattle.world_text.proofs.adding.add_group.Goals as goal

pub returns-then-not-may_join-clause-bad : goal.returns-then-not-may_join-clause-bad
returns-then-not-may_join-clause-bad c = λ bad named is before s.
    let decls = c.args.draft.now.decls.items in
    let groups = c.args.draft.now.groups.items in
    let declared : are_declared (length c.args.draft.now.decls.items) (group_pools c.args.decl) ≡ true = ap (λ d. are_declared (length decls) (group_pools d)) is ∙ group_declared decls named in
    let refused : (are_declared (length c.args.draft.now.decls.items) (group_pools c.args.decl) && may_join c.args.draft.now.groups.items c.args.decl) ≡ false = search rules in
    let no_room : may_join c.args.draft.now.groups.items c.args.decl ≡ false = sym (ap (λ b. b && may_join groups c.args.decl) declared) ∙ refused in
    and_false_right _ _ (and_false_right _ _ ((λ i. may_join (sym s.groups i) (group_of (sym s.decls i) named)) ∙ ap (may_join groups) (sym is) ∙ no_room))

pub returns-clause-ok : goal.returns-clause-ok
returns-clause-ok c = λ named is listed.
    let decls = c.args.draft.now.decls.items in
    let groups = c.args.draft.now.groups.items in
    let l = line.Group named in
    let placed : is_between section.Version section.Groups c.args.draft.now.section ≡ true = search rules in
    let taken : (are_declared (length c.args.draft.now.decls.items) (group_pools c.args.decl) && may_join c.args.draft.now.groups.items c.args.decl) ≡ true = search rules in
    let joins : may_join c.args.draft.now.groups.items c.args.decl ≡ true = (and_parts _ _ taken).1 in
    record {
      format = refl;
      fit = λ before s. and_true _ _ (placed_at section.Version section.Groups c.args.draft.now before s placed).fit
          (and_true _ _ (ap (λ ds. are_listed ds named) (sym s.decls) ∙ listed)
          ((λ i. may_join (sym s.groups i) (group_of (sym s.decls i) named)) ∙ ap (may_join groups) (sym is) ∙ joins));
      stands = λ before s.
          let p = placed_at section.Version section.Groups c.args.draft.now before s placed in
          record {
            section = sym (last_section_push before l p.high);
            decls = keeps decl_in before l _ refl s.decls;
            groups = c.in_ok-push.ensures.items ∙ (λ i. groups ++ is i ∷ []) ∙ (λ i. s.groups i ++ group_of (s.decls i) named ∷ []) ∙ groups_gain before named;
            systems = s.systems ∙ systems_keep before l refl tt;
            tick = s.tick ∙ kept_tick before l refl;
            slots = keeps slot_in before l _ refl s.slots;
            free = keeps next_in before l _ refl s.free;
            settled = s.settled ∙ settled_same before l refl refl;
            pools = s.pools ∙ sym (pools_in-other _ before l tt);
          };
    }
