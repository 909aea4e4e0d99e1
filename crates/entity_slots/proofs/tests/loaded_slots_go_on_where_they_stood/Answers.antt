use Rattle.std.proofs.Common.{◌≡◌, ℕ, zero, suc, ◌+◌, List, [], ◌∷◌, refl, ap, ◌∙◌, arith}
use Rattle.std.proofs.lemmas.Bool.{ne_eqb}
use Rattle.entity_id.specs.Identifiers.{p20_12}
use Rattle.world_model.specs.declared.slot.Slot.{Slot}
use Rattle.world_model.specs.Slots.{AreLawfulSlots, is_free_at, live_slot, free_slot}
use Rattle.world_model.proofs.SlotLemmas.{bit, count_cons}
use Rattle.entity_slots.proofs.CountLemmas.{times}
use Rattle.entity_slots.proofs.tests.loaded_slots_go_on_where_they_stood.Goals as goal

abbrev list : List Slot
list = free_slot 7 ∷ live_slot 3 ∷ free_slot 4094 ∷ []

listed : (index : ℕ) → times (2 ∷ 0 ∷ []) index ≡ bit (is_free_at list index)
listed zero = refl
listed (suc zero) = refl
listed (suc (suc zero)) = refl
listed (suc (suc (suc n))) =
    let index : ℕ = suc (suc (suc n)) in
    count_cons index 2 (0 ∷ []) ∙ ap (λ k. k + times (0 ∷ []) index) (ap bit (ne_eqb 2 index (λ e. omega arith)))
    ∙ ap (λ k. 0 + k) (count_cons index 0 [] ∙ ap (λ k. k + 0) (ap bit (ne_eqb 0 index (λ e. omega arith))))

lawful : AreLawfulSlots p20_12 4 list (2 ∷ 0 ∷ [])
lawful = record {
  few = omega arith;
  addressable = omega arith;
  versions = (omega arith, (omega arith, (omega arith, tt)));
  listed = listed;
}

pub load-loaded-requires-clause-lawful : goal.load-loaded-requires-clause-lawful
load-loaded-requires-clause-lawful g c = rw (c.slot.ensures, c.slot-2.ensures, c.slot-3.ensures) lawful
