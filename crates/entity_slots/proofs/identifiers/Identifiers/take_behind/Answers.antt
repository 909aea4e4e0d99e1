use Rattle.std.proofs.Common.{◌<◌, set, length, refl, arith}
use Rattle.std.specs.Vec.{with_item}
use Rattle.entity_id.specs.declared.entity.Entity.{Entity}
use Rattle.world_model.specs.Slots.{live_slot}
use Rattle.entity_slots.specs.Threads.{Threaded}
use Rattle.entity_slots.specs.declared.identifiers.Identifiers.TheInside.{Inside}
use Rattle.entity_slots.proofs.ShownLemmas.{shown, threaded, shown_now}
use Rattle.entity_slots.proofs.TakenLemmas.{without, within_behind, taken_behind_read}
use Rattle.entity_slots.proofs.identifiers.Identifiers.take_behind.Goals as goal

pub index-requires : goal.index-requires
index-requires c =
    let old : Inside = c.self.inside in
    let value : Threaded = c.args.self.now in
    let at = c.requires.before in
    let within : c.args.entity.index < length old.list.items =
    (within_behind old.list.items old.null old.top value.slots value.free (shown old value c.self.invariant c.self.view_is) c.requires.listed c.args.before c.args.entity.index at.before at.after at.parts).1 in
    omega (arith, old.list.ok.0)

pub index_mut-requires : goal.index_mut-requires
index_mut-requires c =
    let old : Inside = c.self.inside in
    let value : Threaded = c.args.self.now in
    let at = c.requires.before in
    let within : c.args.before < length old.list.items =
    (within_behind old.list.items old.null old.top value.slots value.free (shown old value c.self.invariant c.self.view_is) c.requires.listed c.args.before c.args.entity.index at.before at.after at.parts).0 in
    omega (arith, old.list.ok.0)

pub index_mut-requires-2 : goal.index_mut-requires-2
index_mut-requires-2 c =
    let old : Inside = c.self.inside in
    let value : Threaded = c.args.self.now in
    let at = c.requires.before in
    let within : c.args.entity.index < length old.list.items =
    (within_behind old.list.items old.null old.top value.slots value.free (shown old value c.self.invariant c.self.view_is) c.requires.listed c.args.before c.args.entity.index at.before at.after at.parts).1 in
    omega (arith, old.list.ok.0)

pub invariant_of-self : goal.invariant_of-self
invariant_of-self c =
    let old : Inside = c.self.inside in
    let value : Threaded = c.args.self.now in
    let entity : Entity = c.args.entity in
    let at = c.requires.before in
    let last : Entity = c.index_mut.result.now in
    let link : Entity = record { index = c.index.result.now.index; version = last.version } in
    let new : Inside = record { list = with_item (with_item old.list c.args.before link) entity.index entity; top = old.top; null = old.null } in
    threaded new (set value.slots entity.index (live_slot entity.version)) (without entity.index value.free) c.self.invariant.small
    (taken_behind_read old.list.items old.null old.top value.slots value.free (shown old value c.self.invariant c.self.view_is) c.requires.listed
    c.args.before entity last c.index.result.now at.before at.after at.parts c.index_mut.ensures.value c.index.ensures)

pub returns : goal.returns
returns c =
    let old : Inside = c.self.inside in
    let value : Threaded = c.args.self.now in
    let entity : Entity = c.args.entity in
    let at = c.requires.before in
    let last : Entity = c.index_mut.result.now in
    let link : Entity = record { index = c.index.result.now.index; version = last.version } in
    let new : Inside = record { list = with_item (with_item old.list c.args.before link) entity.index entity; top = old.top; null = old.null } in
    shown_now old new value (set value.slots entity.index (live_slot entity.version)) (without entity.index value.free) c.self.view_is refl refl
    (taken_behind_read old.list.items old.null old.top value.slots value.free (shown old value c.self.invariant c.self.view_is) c.requires.listed
    c.args.before entity last c.index.result.now at.before at.after at.parts c.index_mut.ensures.value c.index.ensures)
