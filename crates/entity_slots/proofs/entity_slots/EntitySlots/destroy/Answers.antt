use Rattle.std.proofs.Common.{◌≡◌, ℕ, ◌<◌, true, List, ◌∷◌, length, length-set, set, sym, ap, subst, ◌∙◌, arith, rules}
use Rattle.entity_id.specs.declared.entity.Profile.{Profile}
use Rattle.world_model.specs.Slots.{AreLawfulSlots, is_live, is_live_at, free_slot, slots_after_destroy}
use Rattle.world_model.proofs.SlotLemmas.{slot_of_live, released_slots}
use Rattle.entity_slots.specs.Threads.{Threaded}
use Rattle.entity_slots.proofs.CountLemmas.{live_count, live_count-freed, some_live}
use Rattle.entity_slots.proofs.entity_slots.EntitySlots.destroy.Goals as goal

pub overflow_sub-self : goal.overflow_sub-self
overflow_sub-self c =
    let old : Threaded = c.self.inside.identifiers in
    let live : is_live old.slots c.args.entity ≡ true = search rules in
    let some : 0 < live_count old.slots = some_live old.slots c.args.entity.index (slot_of_live old.slots c.args.entity live).0 in
    omega (arith, c.self.invariant.counted)

pub invariant_of-self : goal.invariant_of-self
invariant_of-self c =
    let profile : Profile = c.self.inside.profile in
    let limit : ℕ = c.self.inside.limit in
    let old : Threaded = c.self.inside.identifiers in
    let new : Threaded = c.release.new.self in
    let index : ℕ = c.args.entity.index in
    let version : ℕ = c.next_version-version.result in
    let live : is_live old.slots c.args.entity ≡ true = search rules in
    let at : is_live_at old.slots index ≡ true = (slot_of_live old.slots c.args.entity live).0 in
    let lawful = released_slots profile limit old.slots old.free c.args.entity live c.self.invariant.lawful.slots in
    let slots : new.slots ≡ slots_after_destroy profile old.slots c.args.entity =
    c.release.ensures.slots ∙ ap (λ (v : ℕ). set old.slots index (free_slot v)) c.next_version-version.ensures in
    record {
      lawful = record {
        profile = c.self.invariant.lawful.profile;
        slots = subst (λ (xs : List ℕ). AreLawfulSlots profile limit new.slots xs) (sym c.release.ensures.free)
            (subst (λ xs. AreLawfulSlots profile limit xs (index ∷ old.free)) (sym slots) lawful);
      };
      null = c.release.ensures.null ∙ c.self.invariant.null;
      counted = omega (arith, ap live_count c.release.ensures.slots, live_count-freed old.slots index version at, c.self.invariant.counted);
      room = omega (arith, ap length c.release.ensures.slots, length-set old.slots index (free_slot version), c.release.ensures.room, c.self.invariant.room);
    }

pub returns-clause-lawful : goal.returns-clause-lawful
returns-clause-lawful c = (invariant_of-self c).lawful
