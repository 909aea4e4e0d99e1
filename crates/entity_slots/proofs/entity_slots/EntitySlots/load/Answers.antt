use Rattle.std.proofs.Common.{◌≡◌, ℕ, List, length, sym, ap, subst, arith}
use Rattle.entity_id.specs.declared.entity.Profile.{Profile}
use Rattle.world_model.specs.declared.slot.Slot.{Slot}
use Rattle.world_model.specs.Slots.{AreLawfulSlots}
use Rattle.entity_slots.specs.Threads.{Threaded}
use Rattle.entity_slots.proofs.CountLemmas.{live_count, free_count, length_free, live_or_free}
use Rattle.entity_slots.proofs.entity_slots.EntitySlots.load.Goals as goal

pub overflow_sub-result : goal.overflow_sub-result
overflow_sub-result c =
    let slots : List Slot = c.args.slots.now in
    let as_many : length c.args.free.now ≡ free_count slots = length_free slots c.args.free.now c.requires.lawful.listed in
    omega (arith, live_or_free slots)

pub invariant_of-result : goal.invariant_of-result
invariant_of-result c =
    let profile : Profile = c.args.profile in
    let limit : ℕ = c.args.slot_limit in
    let slots : List Slot = c.args.slots.now in
    let free : List ℕ = c.args.free.now in
    let made : Threaded = c.in_ok-identifiers.identifiers in
    let is = c.in_ok-identifiers.ensures in
    let as_many : length free ≡ free_count slots = length_free slots free c.requires.lawful.listed in
    record {
      lawful = record {
        profile = c.requires.profile;
        slots = subst (λ (xs : List Slot). AreLawfulSlots profile limit xs made.free) (sym is.slots)
            (subst (AreLawfulSlots profile limit slots) (sym is.free) c.requires.lawful);
      };
      null = is.null;
      counted = omega (arith, ap live_count is.slots, live_or_free slots);
      room = omega (arith, ap length is.slots, is.room);
    }
