use Rattle.std.proofs.Common.{◌≡◌, ◌∙◌, List, get_or, map, slice_get, take, Some, refl, sym, ap, ap₂, subst, rules}
use Rattle.std.proofs.lemmas.List.{take_all}
use Rattle.std.proofs.lemmas.Option.{none-some}
use Rattle.entity_id.specs.declared.entity.Entity.{Entity}
use Rattle.world_model.specs.Contents.{row_at}
use Rattle.registry.specs.Held.{packed_members}
use Rattle.registry_uses.specs.declared.beginning.TheConstants.{POSITION, VELOCITY}
use Rattle.registry_uses.specs.declared.walking.TheConstants.{MOVING}
use Rattle.registry_uses.specs.Moving.{moved}
use Rattle.registry_uses.proofs.GroupedLemmas.{among_members, may_replace, member_there, row_there, walked_more}
use Rattle.registry_uses.proofs.MovingLemmas.{all_moved, only_memory, HaveMoved}
use Rattle.registry_uses.proofs.walking.advance_members.Goals as goal

pub returns-in_err-replace-clause-cause : goal.returns-in_err-replace-clause-cause
returns-in_err-replace-clause-cause g c =
    let old = c.args.registry.now in
    let now = c.loop-place.registry in
    let place = c.loop-place.place in
    let so_far = c.loop-place.invariant in
    let list : List Entity = packed_members old MOVING in
    let x : Entity = get_or c.in_ok-entity.field-0.now place (record { index = 0; version = 0 }) in
    let there : slice_get list place ≡ Some x = member_there list c.in_ok-place-end.field-0.now c.in_ok-entity.field-0.now place c.in_ok-place-end.ensures.ok (c.in_ok-entity.ensures.ok ∙ so_far.members) c.loop-place-test.true in
    let passes = may_replace old now place x c.moved_by.result c.law.ensures c.requires so_far there in
    let cause = only_memory c.in_err-replace.field-0.0 (λ other. none-some c.in_err-replace.field-0.0 (sym passes ∙ c.in_err-replace.ensures.cause other)) in
    search (rules, cause)

pub loop-place-preserved : goal.loop-place-preserved
loop-place-preserved g c =
    let old = c.args.registry.now in
    let now = c.loop-place.registry in
    let place = c.loop-place.place in
    let so_far = c.loop-place.invariant in
    let list : List Entity = packed_members old MOVING in
    let x : Entity = get_or c.in_ok-entity.field-0.now place (record { index = 0; version = 0 }) in
    let there : slice_get list place ≡ Some x = member_there list c.in_ok-place-end.field-0.now c.in_ok-entity.field-0.now place c.in_ok-place-end.ensures.ok (c.in_ok-entity.ensures.ok ∙ so_far.members) c.loop-place-test.true in
    let position = row_there now.world POSITION list c.in_ok-position.field-0.now place x _ (c.in_ok-position.ensures.ok ∙ ap (map (λ (e : Entity). row_at now.world POSITION e)) so_far.members) there in
    let velocity = row_there now.world VELOCITY list c.in_ok-velocity.field-0.now place x _ (c.in_ok-velocity.ensures.ok ∙ ap (map (λ (e : Entity). row_at now.world VELOCITY e)) so_far.members) there in
    walked_more old now c.replace.new.self place x c.moved_by.result c.law.ensures c.requires so_far there (c.moved_by.ensures.row ∙ ap₂ moved position velocity) c.moved_by.ensures.wide c.in_ok-replace.ensures.ok
    (c.packing_without_groups.ensures now c.replace.new.self _ (λ pool. refl) c.in_ok-replace.ensures.packed)

pub returns-clause-ok : goal.returns-clause-ok
returns-clause-ok g c =
    let old = c.args.registry.now in
    let new = c.loop-place.registry in
    let place = c.loop-place.place in
    let list : List Entity = packed_members old MOVING in
    let counted : c.in_ok-place-end.field-0.now ≡ list = c.in_ok-place-end.ensures.ok in
    let whole : take place list ≡ list = ap (take place) (sym counted) ∙ take_all place c.in_ok-place-end.field-0.now c.loop-place-test.false ∙ counted in
    all_moved old.world new.world list (subst (HaveMoved old.world new.world) whole c.loop-place.invariant.moved) (among_members old c.law.ensures c.requires)
