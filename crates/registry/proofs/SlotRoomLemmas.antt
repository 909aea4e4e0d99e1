-- Room for slots.
use Rattle.std.proofs.Common.{◌≡◌, ◌≢◌, ◌↔◌, ℕ, ◌+◌, ◌<◌, ◌≤◌, Bool, true, false, not, List, [], length, Result, Ok, Err, IsTrue, sym, refl, ap, ◌∙◌, arith}
use Rattle.std.specs.Prelude.{min, nat_lt}
use Rattle.std.proofs.lemmas.Bool.{ltb-true, not-false}
use Rattle.entity_id.specs.declared.entity.Entity.{Entity}
use Rattle.entity_slots.specs.declared.refused.CreateRefused.{CreateRefused}
use Rattle.entity_slots.specs.declared.refused.CreateRefused.TheVariants as refused
use Rattle.entity_slots.specs.SlotLists.{SlotLists, are_full}
use Rattle.world_model.specs.Slots.{is_full}
use Rattle.registry.specs.declared.parts.Parts.{Parts}
use Rattle.registry.specs.Layout.{held_of}
use Rattle.registry.specs.Spending.{nowhere, Spends}
use Rattle.registry.proofs.DoneLemmas.{with_slots}
use Rattle.registry.proofs.SpendLemmas.{no_rows, no_events}

-- other slots
pub slots_spend : {L : Type 0} (old : Parts L) (slots : SlotLists) → old.slots.spare + length old.slots.slots ≤ slots.spare + length slots.slots → Spends nowhere nowhere (held_of old) (held_of (with_slots old slots))
slots_spend old slots kept = record {
  slots = kept;
  rows = no_rows nowhere (held_of old).rooms (held_of old).packed (held_of old).destroy;
  construct = no_events nowhere (held_of old).construct;
  update = no_events nowhere (held_of old).update;
}

-- a creation that finds room never wants memory
pub never_wants : (lists : SlotLists) (r : Result Entity CreateRefused) → r ≡ Err refused.OutOfMemory → (0 < lists.spare → r ≢ Err refused.OutOfMemory) → (r ≡ Err refused.Full) ↔ IsTrue (are_full lists) → lists.free ≡ []
    → min lists.limit (length lists.slots + 1) ≤ length lists.slots + lists.spare → ⊥
never_wants lists r is reserved full none enough = by_full (are_full lists) refl
  where
    by_full : (b : Bool) → are_full lists ≡ b → ⊥
    by_full true q =
        let other : Err refused.OutOfMemory ≡ Err refused.Full = sym is ∙ full.1 q in
        cc
    by_full false q =
        let low : length lists.slots < lists.limit = ltb-true (length lists.slots) lists.limit (not-false _ (sym (ap (is_full lists.limit lists.slots) none) ∙ q)) in
        reserved (omega arith) is
