use Rattle.std.proofs.Common.{◌≡◌, ℕ, suc, ◌+◌, ◌-◌, ◌≤◌, List, [], ◌∷◌, ◌++◌, length, length-append, replicate, reverse, ap, ap₂, sym, ◌∙◌, append_assoc, arith}
use Rattle.std.specs.List.{range_with_len}
use Rattle.std.proofs.lemmas.List.{reverse-append}
use Rattle.world_model.specs.declared.slot.Slot.{Slot}
use Rattle.world_model.specs.Slots.{free_slot}
use Rattle.entity_slots.proofs.HintedLemmas.{range-more, replicate-more}
use Rattle.entity_slots.proofs.hint.append_past.Goals as goal

pub overflow_add-made : goal.overflow_add-made
overflow_add-made c = omega arith

pub loop-index-preserved : goal.loop-index-preserved
loop-index-preserved c =
    let slots : List Slot = c.args.identifiers.now.slots in
    let free : List ℕ = c.args.identifiers.now.free in
    let first : ℕ = length slots in
    let index : ℕ = c.loop-index._index in
    let gap : ℕ = index - first in
    let before : first ≤ index = omega arith in
    let more : suc gap ≡ index + 1 - first = omega arith in
    let here : first + gap ≡ index = omega arith in
    let is = c.loop-index.invariant in
    let range : range_with_len first (index + 1 - first) ≡ range_with_len first gap ++ index ∷ [] =
    sym (ap (range_with_len first) more) ∙ range-more first gap ∙ ap (λ k. range_with_len first gap ++ k ∷ []) here in
    record {
      slots = c.append_free.ensures.slots ∙ ap (λ xs. xs ++ free_slot 0 ∷ []) is.slots ∙ append_assoc slots (replicate gap (free_slot 0)) (free_slot 0 ∷ [])
          ∙ ap (λ xs. slots ++ xs) (sym (replicate-more gap (free_slot 0)) ∙ ap (λ n. replicate n (free_slot 0)) more);
      free = c.append_free.ensures.free ∙ ap₂ (λ i xs. i ∷ xs) is.long is.free
          ∙ ap (λ xs. xs ++ free) (sym (ap reverse range ∙ reverse-append (range_with_len first gap) (index ∷ [])));
      long = ap length c.append_free.ensures.slots ∙ length-append c.loop-index.identifiers.slots (free_slot 0 ∷ []) ∙ ap (λ n. n + 1) is.long;
      null = c.append_free.ensures.null ∙ is.null;
      room = c.append_free.ensures.room ∙ is.room;
    }
