use Rattle.std.proofs.Common.{◌<◌, set, length, refl, arith}
use Rattle.std.specs.Vec.{with_item}
use Rattle.entity_id.specs.declared.entity.Entity.{Entity}
use Rattle.world_model.specs.Slots.{live_slot}
use Rattle.entity_slots.specs.Threads.{Threaded}
use Rattle.entity_slots.specs.declared.identifiers.Identifiers.TheInside.{Inside}
use Rattle.entity_slots.proofs.ShownLemmas.{shown, threaded, shown_now, top_is}
use Rattle.entity_slots.proofs.TakenLemmas.{without, taken_top_read}
use Rattle.entity_slots.proofs.identifiers.Identifiers.take_top.Goals as goal

pub index-requires : goal.index-requires
index-requires c =
    let old : Inside = c.self.inside in
    let value : Threaded = c.args.self.now in
    let within : c.args.entity.index < length old.list.items =
    (top_is old.list.items old.null old.top value.slots value.free (shown old value c.self.invariant c.self.view_is) c.args.entity.index c.requires.top.after c.requires.top.parts).1 in
    omega (arith, old.list.ok.0)

pub index_mut-requires : goal.index_mut-requires
index_mut-requires c =
    let old : Inside = c.self.inside in
    let value : Threaded = c.args.self.now in
    let within : c.args.entity.index < length old.list.items =
    (top_is old.list.items old.null old.top value.slots value.free (shown old value c.self.invariant c.self.view_is) c.args.entity.index c.requires.top.after c.requires.top.parts).1 in
    omega (arith, old.list.ok.0)

pub invariant_of-self : goal.invariant_of-self
invariant_of-self c =
    let old : Inside = c.self.inside in
    let value : Threaded = c.args.self.now in
    let entity : Entity = c.args.entity in
    let new : Inside = record { list = with_item old.list entity.index entity; top = c.index.result.now.index; null = old.null } in
    threaded new (set value.slots entity.index (live_slot entity.version)) (without entity.index value.free) c.self.invariant.small
    (taken_top_read old.list.items old.null old.top value.slots value.free (shown old value c.self.invariant c.self.view_is) c.requires.listed entity c.index.result.now c.requires.top.after c.requires.top.parts c.index.ensures)

pub returns : goal.returns
returns c =
    let old : Inside = c.self.inside in
    let value : Threaded = c.args.self.now in
    let entity : Entity = c.args.entity in
    let new : Inside = record { list = with_item old.list entity.index entity; top = c.index.result.now.index; null = old.null } in
    shown_now old new value (set value.slots entity.index (live_slot entity.version)) (without entity.index value.free) c.self.view_is refl refl
    (taken_top_read old.list.items old.null old.top value.slots value.free (shown old value c.self.invariant c.self.view_is) c.requires.listed entity c.index.result.now c.requires.top.after c.requires.top.parts c.index.ensures)
