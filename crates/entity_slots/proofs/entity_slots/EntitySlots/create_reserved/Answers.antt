use Rattle.std.proofs.Common.{◌≡◌, ℕ, ◌<◌, ◌≤◌, true, List, [], ◌∷◌, ◌++◌, length, length-append, length-set, sym, ap, subst, ◌∙◌, arith}
use Rattle.std.proofs.lemmas.Grind.{common_steps}
use Rattle.entity_id.specs.declared.entity.Entity.{Entity}
use Rattle.entity_id.specs.declared.entity.Profile.{Profile}
use Rattle.world_model.specs.declared.slot.Slot.{Slot}
use Rattle.world_model.specs.Slots.{AreLawfulSlots, is_free_at, live_slot}
use Rattle.world_model.proofs.SlotLemmas.{created_slots}
use Rattle.entity_slots.specs.SlotLists.{SlotLists}
use Rattle.entity_slots.specs.Threads.{Threaded}
use Rattle.entity_slots.proofs.CountLemmas.{live_count, live_count-taken, live_count-push, fewer_live}
use Rattle.entity_slots.proofs.CreationLemmas.{reused_lawful, some_version, top_is_free}
use Rattle.entity_slots.proofs.entity_slots.EntitySlots.create_reserved.Goals as goal

-- ---- an index that was free

pub overflow_add-self : goal.overflow_add-self
overflow_add-self c =
    let old : Threaded = c.self.inside.identifiers in
    let index : ℕ = c.in-Some.entity.index in
    let free : is_free_at old.slots index ≡ true =
    top_is_free c.self.inside.profile c.self.inside.limit old.slots old.free c.reuse.new.self.free index c.self.invariant.lawful.slots c.in-Some.ensures.free in
    let few : length old.slots ≤ c.self.inside.limit = c.self.invariant.lawful.slots.few in
    omega (arith, fewer_live old.slots index free, c.self.invariant.counted)

pub invariant_of-self : goal.invariant_of-self
invariant_of-self c =
    let profile : Profile = c.self.inside.profile in
    let limit : ℕ = c.self.inside.limit in
    let old : Threaded = c.self.inside.identifiers in
    let new : Threaded = c.reuse.new.self in
    let entity : Entity = c.in-Some.entity in
    let kept = c.self.invariant in
    let now = c.in-Some.ensures.now in
    let free : is_free_at old.slots entity.index ≡ true = top_is_free profile limit old.slots old.free new.free entity.index kept.lawful.slots c.in-Some.ensures.free in
    let lawful = reused_lawful profile limit old.slots old.free new.free entity kept.lawful.profile kept.lawful.slots c.in-Some.ensures.free c.in-Some.ensures.version in
    record {
      lawful = record {
        profile = kept.lawful.profile;
        slots = subst (λ (xs : List Slot). AreLawfulSlots profile limit xs new.free) (sym now.slots) lawful;
      };
      null = now.null ∙ kept.null;
      counted = omega (arith, ap live_count now.slots, live_count-taken old.slots entity.index entity.version free, kept.counted);
      room = omega (arith, ap length now.slots, length-set old.slots entity.index (live_slot entity.version), now.room, kept.room);
    }

pub returns-in-Some-clause-lawful : goal.returns-in-Some-clause-lawful
returns-in-Some-clause-lawful c = (invariant_of-self c).lawful

-- ---- a new index

pub invariant_of-self-2 : goal.invariant_of-self-2
invariant_of-self-2 c =
    let profile : Profile = c.self.inside.profile in
    let limit : ℕ = c.self.inside.limit in
    let old : Threaded = c.self.inside.identifiers in
    let asked : Threaded = c.reuse.new.self in
    let new : Threaded = c.append.new.self in
    let kept = c.self.invariant in
    let now = c.append.ensures.now in
    let none : old.free ≡ [] = grind (arith, common_steps) in
    let same : asked ≡ old = grind (arith, common_steps) in
    let long : length asked.slots ≡ length old.slots = ap (λ (t : Threaded). length t.slots) same in
    let room : length old.slots < limit = omega arith in
    let lawful : AreLawfulSlots profile limit old.slots [] = subst (AreLawfulSlots profile limit old.slots) none kept.lawful.slots in
    let appended = created_slots profile limit old.slots [] (some_version profile kept.lawful.profile) (λ _. room) lawful in
    let slots : new.slots ≡ old.slots ++ live_slot 0 ∷ [] = now.slots ∙ ap (λ (t : Threaded). t.slots ++ live_slot 0 ∷ []) same in
    let free : new.free ≡ [] = now.free ∙ ap (λ (t : Threaded). t.free) same ∙ none in
    let null : new.null ≡ old.null = now.null ∙ ap (λ (t : Threaded). t.null) same in
    let fits : new.room ≡ old.room = now.room ∙ ap (λ (t : Threaded). t.room) same in
    let spare : 0 < c.self.inside.spare =
    subst (λ (lists : SlotLists). lists.free ≡ [] → length lists.slots < lists.limit → 0 < lists.spare) (sym c.self.view_is) c.requires none room in
    record {
      lawful = record {
        profile = kept.lawful.profile;
        slots = subst (λ (xs : List Slot). AreLawfulSlots profile limit xs new.free) (sym slots)
            (subst (AreLawfulSlots profile limit (old.slots ++ live_slot 0 ∷ [])) (sym free) appended);
      };
      null = null ∙ kept.null;
      counted = omega (arith, ap live_count slots, live_count-push old.slots 0, kept.counted);
      room = omega (arith, ap length slots, length-append old.slots (live_slot 0 ∷ []), kept.room);
    }

pub returns-clause-lawful : goal.returns-clause-lawful
returns-clause-lawful c = (invariant_of-self-2 c).lawful
