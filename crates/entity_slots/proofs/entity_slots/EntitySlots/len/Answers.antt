use Rattle.std.proofs.Common.{◌≡◌, ◌≤◌, List, ℕ, length, arith, subst}
use Rattle.world_model.specs.declared.slot.Slot.{Slot}
use Rattle.entity_slots.specs.SlotLists.{SlotLists}
use Rattle.entity_slots.proofs.CountLemmas.{free_count, length_free, live_or_free}
use Rattle.entity_slots.proofs.entity_slots.EntitySlots.len.Goals as goal

pub returns-clause-free : goal.returns-clause-free
returns-clause-free c =
    let slots : List Slot = c.self.inside.identifiers.slots in
    let free : List ℕ = c.self.inside.identifiers.free in
    let as_many : length free ≡ free_count slots = length_free slots free c.self.invariant.lawful.slots.listed in
    let fewer : length free ≤ length slots = omega (arith, live_or_free slots) in
    subst (λ (lists : SlotLists). length lists.free ≤ length lists.slots) c.self.view_is fewer
