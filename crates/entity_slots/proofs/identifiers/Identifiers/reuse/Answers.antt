use Rattle.std.proofs.Common.{ℕ, List, ◌∷◌, set, refl, sym, ap, subst, ◌∙◌}
use Rattle.std.specs.Vec.{with_item}
use Rattle.entity_id.specs.declared.entity.Entity.{Entity}
use Rattle.world_model.specs.declared.slot.Slot.{Slot}
use Rattle.world_model.specs.Slots.{live_slot}
use Rattle.entity_slots.specs.Threads.{Threaded, threaded_of, IsNow}
use Rattle.entity_slots.specs.declared.identifiers.Identifiers.TheInside.{Inside}
use Rattle.entity_slots.proofs.ShownLemmas.{shown, found, threaded, shown_now, IsReused, reused}
use Rattle.entity_slots.proofs.identifiers.Identifiers.reuse.Goals as goal

pub invariant_of-self : goal.invariant_of-self
invariant_of-self c =
    let old : Inside = c.self.inside in
    let value : Threaded = c.args.self.now in
    let e : Entity = c.index_mut-entity.result.now in
    let made : Entity = record { index = old.top; version = e.version } in
    let new : Inside = record { list = with_item old.list old.top made; top = e.index; null = old.null } in
    let r : IsReused old.list.items old.null old.top value.slots value.free e =
    reused old.list.items old.null old.top value.slots value.free (shown old value c.self.invariant c.self.view_is) c.requires c.if-self.false e c.index_mut-entity.ensures.value in
    threaded new (set value.slots old.top (live_slot e.version)) r.rest c.self.invariant.small r.shows

pub returns-clause-free : goal.returns-clause-free
returns-clause-free c =
    let old : Inside = c.self.inside in
    let value : Threaded = c.args.self.now in
    let e : Entity = c.index_mut-entity.result.now in
    let made : Entity = record { index = old.top; version = e.version } in
    let r : IsReused old.list.items old.null old.top value.slots value.free e =
    reused old.list.items old.null old.top value.slots value.free (shown old value c.self.invariant c.self.view_is) c.requires c.if-self.false e c.index_mut-entity.ensures.value in
    r.parts ∙ ap (λ xs. old.top ∷ xs) (sym (found (set old.list.items old.top made) old.null e.index (set value.slots old.top (live_slot e.version)) r.rest r.shows))

pub returns-clause-version : goal.returns-clause-version
returns-clause-version c =
    let old : Inside = c.self.inside in
    let value : Threaded = c.args.self.now in
    let e : Entity = c.index_mut-entity.result.now in
    let r : IsReused old.list.items old.null old.top value.slots value.free e =
    reused old.list.items old.null old.top value.slots value.free (shown old value c.self.invariant c.self.view_is) c.requires c.if-self.false e c.index_mut-entity.ensures.value in
    r.version

pub returns-clause-now : goal.returns-clause-now
returns-clause-now c =
    let old : Inside = c.self.inside in
    let value : Threaded = c.args.self.now in
    let e : Entity = c.index_mut-entity.result.now in
    let made : Entity = record { index = old.top; version = e.version } in
    let new : Inside = record { list = with_item old.list old.top made; top = e.index; null = old.null } in
    let slots : List Slot = set value.slots old.top (live_slot e.version) in
    let r : IsReused old.list.items old.null old.top value.slots value.free e =
    reused old.list.items old.null old.top value.slots value.free (shown old value c.self.invariant c.self.view_is) c.requires c.if-self.false e c.index_mut-entity.ensures.value in
    subst (λ (indices : List ℕ). IsNow value (threaded_of new) slots indices) (sym (found new.list.items new.null new.top slots r.rest r.shows))
    (shown_now old new value slots r.rest c.self.view_is refl refl r.shows)
