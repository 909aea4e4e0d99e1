use Rattle.std.proofs.Common.{◌≡◌, ◌++◌, ◌∷◌, [], length, None, refl, sym, ap, subst, ◌∙◌, arith}
use Rattle.std.proofs.lemmas.Option.{slice_get_read}
use Rattle.world_model.specs.Groups.{has_pool}
use Rattle.world_model.specs.declared.group.GroupDecl.{GroupDecl}
use Rattle.group_engine.specs.Engine.{build_refusal}
use Rattle.group_engine.specs.Grouped.{packed_of, AreStill}
use Rattle.registry.proofs.GroupingLemmas.{AreInOrder, next_accepted, one_loaded}
use Rattle.registry.proofs.parts.loading.load_groups_counted.Goals as goal

pub loop-decl-preserved : goal.loop-decl-preserved
loop-decl-preserved g c =
    let more = c.load_group.ensures in
    one_loaded c.args.decls.now c.args.pools.now c.loop-decl.pools c.load_group.new.pools c.loop-decl.groups c.load_group.new.groups c.loop-decl.decl-index c.decl-item.result c.loop-decl.invariant
    (slice_get_read c.args.decls.now (length c.args.decls.now) c.loop-decl.decl-index c.decl-item.result refl (omega arith) c.decl-item.is)
    (c.in_ok-load_group.ensures.decls ∙ ap (λ (d : GroupDecl). c.loop-decl.groups.decls ++ d ∷ []) c.in_ok-copied.ensures) more.pools more.grouped more.cores
    (subst (λ (d : GroupDecl). AreStill (has_pool d.own) (packed_of c.loop-decl.pools) (packed_of c.load_group.new.pools)) c.in_ok-copied.ensures more.still)

pub load_group-requires-clause-accepted : goal.load_group-requires-clause-accepted
load_group-requires-clause-accepted g c =
    let together = c.families_are_those_of_worlds.ensures.family (length c.args.pools.now) c.args.decls.now c.requires.lawful in
    let order : AreInOrder c.args.decls.now = record {
      new = λ number decl at. c.families_grow_in_order.ensures.new c.args.decls.now number decl together at;
      accepted = λ number decl at. c.families_grow_in_order.ensures.accepted c.args.decls.now number decl together at;
    } in
    subst (λ (d : GroupDecl). build_refusal c.loop-decl.groups d ≡ None) (sym c.in_ok-copied.ensures)
    (next_accepted c.args.decls.now c.args.pools.now c.loop-decl.pools c.loop-decl.groups c.loop-decl.decl-index c.decl-item.result order c.requires.lawful c.loop-decl.invariant
    (slice_get_read c.args.decls.now (length c.args.decls.now) c.loop-decl.decl-index c.decl-item.result refl (omega arith) c.decl-item.is))
