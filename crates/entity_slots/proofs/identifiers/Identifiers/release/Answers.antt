use Rattle.std.proofs.Common.{◌<◌, ◌∷◌, length, set, refl, arith}
use Rattle.std.specs.Vec.{with_item}
use Rattle.entity_id.specs.declared.entity.Entity.{Entity}
use Rattle.world_model.specs.Slots.{free_slot}
use Rattle.world_model.proofs.SlotLemmas.{live_within}
use Rattle.entity_slots.specs.Threads.{Threaded}
use Rattle.entity_slots.specs.declared.identifiers.Identifiers.TheInside.{Inside}
use Rattle.entity_slots.proofs.ShownLemmas.{shown, threaded, shown_now, length_shown, released}
use Rattle.entity_slots.proofs.identifiers.Identifiers.release.Goals as goal

pub index_mut-requires : goal.index_mut-requires
index_mut-requires c =
    let value : Threaded = c.args.self.now in
    let within : c.args.index < length value.slots = live_within value.slots c.args.index c.requires.live in
    omega (arith, length_shown c.self.inside value c.self.view_is)

pub invariant_of-self : goal.invariant_of-self
invariant_of-self c =
    let old : Inside = c.self.inside in
    let value : Threaded = c.args.self.now in
    let freed : Entity = record { index = old.top; version = c.args.version } in
    let new : Inside = record { list = with_item old.list c.args.index freed; top = c.args.index; null = old.null } in
    threaded new _ _ c.self.invariant.small (released old.list.items old.null old.top value.slots value.free (shown old value c.self.invariant c.self.view_is) c.args.index c.args.version c.requires.live c.requires.listed)

pub returns : goal.returns
returns c =
    let old : Inside = c.self.inside in
    let value : Threaded = c.args.self.now in
    let freed : Entity = record { index = old.top; version = c.args.version } in
    let new : Inside = record { list = with_item old.list c.args.index freed; top = c.args.index; null = old.null } in
    shown_now old new value (set value.slots c.args.index (free_slot c.args.version)) (c.args.index ∷ value.free) c.self.view_is refl refl
    (released old.list.items old.null old.top value.slots value.free (shown old value c.self.invariant c.self.view_is) c.args.index c.args.version c.requires.live c.requires.listed)
