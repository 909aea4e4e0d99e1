-- Slots and the free list after a hint that is taken.
use Rattle.std.proofs.Common.{◌≡◌, ℕ, zero, suc, ◌+◌, ◌-◌, ◌<◌, ◌≤◌, Bool, true, false, cond, not, eqb, ltb, List, [], ◌∷◌, ◌++◌, set, length, replicate, reverse, slice_get, sym, refl, ap, ap₂, ◌∙◌, inl, inr, arith, zero-add, append-nil, append_assoc, length-append, length-set}
use Rattle.std.specs.Prelude.{filter, count_by}
use Rattle.std.specs.List.{range_with_len}
use Rattle.std.proofs.lemmas.List.{length-replicate}
use Rattle.std.proofs.lemmas.List.Sums.{sum_by-append}
use Rattle.std.proofs.lemmas.List.Sorted.{sum_by-IsPermutation, IsPermutation-reverse}
use Rattle.std.proofs.lemmas.Bool.Decides.{nat_tests}
use Rattle.std.proofs.lemmas.Bool.{cases_eq, eq-eqb, ne_eqb, both_ways, ltb-true, ltb-false, cond_both}
use Rattle.entity_id.specs.declared.entity.Entity.{Entity}
use Rattle.entity_id.specs.declared.entity.Profile.{Profile}
use Rattle.entity_id.proofs.ListLemmas.{all-append}
use Rattle.world_model.specs.declared.slot.Slot.{Slot}
use Rattle.world_model.specs.Slots.{AreLawfulSlots, is_live, is_live_at, is_free_at, live_slot, free_slot, creation_at_free_index, creation_past_end, creation_as_hinted}
use Rattle.world_model.proofs.ListLemmas.{slice_get-set_same, slice_get-set_other, slice_get-append, all-set, all-replicate}
use Rattle.world_model.proofs.SlotLemmas.{bit, count_cons, live_by_slot, live_from_slot, slot_of_live, live_within, free_at-set_same, free_at-set_other, free_at-push, slice_get-push}

-- ---- the free list

count_cond : (j : ℕ) (b : Bool) (i : ℕ) (free : List ℕ) → count_by (λ k. eqb k j) (cond b (i ∷ free) free) ≡ cond b (bit (eqb i j)) 0 + count_by (λ k. eqb k j) free
count_cond j true i free = count_cons j i free
count_cond j false i free = sym (zero-add _)

without_step : (i j h n m : ℕ) → n ≡ cond (eqb j h) 0 m → cond (not (eqb i h)) (bit (eqb i j)) 0 + n ≡ cond (eqb j h) 0 (bit (eqb i j) + m)
without_step i j h n m e = grind (arith, nat_tests)

-- an index left out is counted no more, and every other one as before
count-without : (h j : ℕ) (free : List ℕ) → count_by (λ k. eqb k j) (filter (λ k. not (eqb k h)) free) ≡ cond (eqb j h) 0 (count_by (λ k. eqb k j) free)
count-without h j [] = elim (eqb j h) as (λ b. ◌≡◌ {A = ℕ} 0 (cond b 0 0)) [ true ↦ refl | false ↦ refl ]
count-without h j (i ∷ free) =
    count_cond j (not (eqb i h)) i (filter (λ k. not (eqb k h)) free)
    ∙ without_step i j h _ (count_by (λ k. eqb k j) free) (count-without h j free)
    ∙ ap (cond (eqb j h) 0) (sym (count_cons j i free))

count-append : (j : ℕ) (xs ys : List ℕ) → count_by (λ k. eqb k j) (xs ++ ys) ≡ count_by (λ k. eqb k j) xs + count_by (λ k. eqb k j) ys
count-append j xs ys = sum_by-append (λ k. cond (eqb k j) 1 0) xs ys

count-reverse : (j : ℕ) (xs : List ℕ) → count_by (λ k. eqb k j) (reverse xs) ≡ count_by (λ k. eqb k j) xs
count-reverse j xs = sum_by-IsPermutation (λ k. cond (eqb k j) 1 0) xs (reverse xs) (IsPermutation-reverse xs)

-- ---- free slots past the end

-- one free slot more
free_at-push_free : (slots : List Slot) (j : ℕ) (s : Slot) → s.live ≡ false → bit (is_free_at (slots ++ s ∷ []) j) ≡ bit (eqb (length slots) j) + bit (is_free_at slots j)
free_at-push_free [] zero s h = ap (λ b. bit (not b)) h
free_at-push_free [] (suc j) s h = grind (arith, nat_tests)
free_at-push_free (x ∷ xs) zero s h = grind (arith, nat_tests)
free_at-push_free (x ∷ xs) (suc j) s h = free_at-push_free xs j s h ∙ ap (λ b. bit b + bit (is_free_at xs j)) (same_next (length xs) j)
  where
    same_next : (a b : ℕ) → eqb a b ≡ eqb (suc a) (suc b)
    same_next a b = grind (arith, nat_tests)

-- so many free slots more
free_at-gap : (gap : ℕ) (slots : List Slot) (j : ℕ) (s : Slot) → s.live ≡ false
    → bit (is_free_at (slots ++ replicate gap s) j) ≡ count_by (λ k. eqb k j) (range_with_len (length slots) gap) + bit (is_free_at slots j)
free_at-gap zero slots j s h = ap (λ xs. bit (is_free_at xs j)) (append-nil slots) ∙ sym (zero-add _)
free_at-gap (suc gap) slots j s h =
    let next : length (slots ++ s ∷ []) ≡ length slots + 1 = length-append slots (s ∷ []) in
    let here : bit (is_free_at (slots ++ s ∷ []) j) ≡ bit (eqb (length slots) j) + bit (is_free_at slots j) = free_at-push_free slots j s h in
    let rest : bit (is_free_at ((slots ++ s ∷ []) ++ replicate gap s) j) ≡ count_by (λ k. eqb k j) (range_with_len (length slots + 1) gap) + bit (is_free_at (slots ++ s ∷ []) j) =
    free_at-gap gap (slots ++ s ∷ []) j s h ∙ ap (λ n. count_by (λ k. eqb k j) (range_with_len n gap) + bit (is_free_at (slots ++ s ∷ []) j)) next in
    let first : count_by (λ k. eqb k j) (range_with_len (length slots) (suc gap)) ≡ bit (eqb (length slots) j) + count_by (λ k. eqb k j) (range_with_len (length slots + 1) gap) =
    count_cons j (length slots) (range_with_len (length slots + 1) gap) in
    ap (λ xs. bit (is_free_at xs j)) (sym (append_assoc slots (s ∷ []) (replicate gap s))) ∙ rest ∙ omega arith

-- ---- the slots

-- a hint that is taken keeps the slots lawful
pub taken_slots : (profile : Profile) (limit : ℕ) (slots : List Slot) (free : List ℕ) (hint : Entity) → 0 < profile.version_limit → hint.index < limit → hint.version < profile.version_limit → AreLawfulSlots profile limit slots free
    → AreLawfulSlots profile limit (creation_as_hinted slots free hint).slots (creation_as_hinted slots free hint).free
taken_slots profile limit slots free hint some low fine h =
    cond_both (ltb hint.index (length slots)) (creation_at_free_index slots free hint) (creation_past_end slots free hint) (λ made. AreLawfulSlots profile limit made.slots made.free)
    (λ e. let within : hint.index < length slots = ltb-true _ _ e in at_free within)
    (λ e. let past : length slots ≤ hint.index = ltb-false _ _ e in past_end past)
  where
    at_free : hint.index < length slots → AreLawfulSlots profile limit (creation_at_free_index slots free hint).slots (creation_at_free_index slots free hint).free
    at_free within =
        let slot : Slot = live_slot hint.version in
        record {
          few = let few : length slots ≤ limit = h.few in omega (arith, length-set slots hint.index slot);
          addressable = h.addressable;
          versions = all-set _ slots hint.index slot h.versions fine;
          listed = λ j. count-without hint.index j free ∙ elim (cases_eq j hint.index) [
            | inl same ↦ ap (λ b. cond b 0 (count_by (λ k. eqb k j) free)) (eq-eqb j hint.index same)
                ∙ sym (ap bit (ap (is_free_at (set slots hint.index slot)) same ∙ free_at-set_same slots hint.index slot within))
            | inr apart ↦ ap (λ b. cond b 0 (count_by (λ k. eqb k j) free)) (ne_eqb j hint.index apart) ∙ h.listed j
                ∙ sym (ap bit (free_at-set_other slots hint.index j slot apart))
          ];
        }

    past_end : length slots ≤ hint.index → AreLawfulSlots profile limit (creation_past_end slots free hint).slots (creation_past_end slots free hint).free
    past_end past =
        let slot : Slot = live_slot hint.version in
        let none : Slot = free_slot 0 in
        let gap : ℕ = hint.index - length slots in
        record {
          few = let few : length slots ≤ limit = h.few in
              omega (arith, length-append (slots ++ replicate gap none) (slot ∷ []), length-append slots (replicate gap none), length-replicate gap none);
          addressable = h.addressable;
          versions = all-append _ (slots ++ replicate gap none) (slot ∷ []) (all-append _ slots (replicate gap none) h.versions (all-replicate _ gap none some)) (fine, tt);
          listed = λ j.
              count-append j (reverse (range_with_len (length slots) gap)) free
              ∙ ap₂ (λ a b. a + b) (count-reverse j (range_with_len (length slots) gap)) (h.listed j)
              ∙ sym (ap bit (free_at-push (slots ++ replicate gap none) j slot refl) ∙ free_at-gap gap slots j none refl);
        }

-- and leaves what was live
pub taken_live : (slots : List Slot) (free : List ℕ) (hint e : Entity) → is_live_at slots hint.index ≡ false → is_live slots e ≡ true → is_live (creation_as_hinted slots free hint).slots e ≡ true
taken_live slots free hint e dead live =
    let slot : Slot = live_slot hint.version in
    let none : Slot = free_slot 0 in
    let gap : ℕ = hint.index - length slots in
    let within : e.index < length slots = live_within slots e.index (slot_of_live slots e live).0 in
    cond_both (ltb hint.index (length slots)) (creation_at_free_index slots free hint) (creation_past_end slots free hint) (λ made. is_live made.slots e ≡ true)
    (λ _. live_by_slot slots (set slots hint.index slot) e
    (slice_get-set_other slots hint.index e.index slot (λ same. both_ways (is_live_at slots hint.index) dead (ap (is_live_at slots) (sym same) ∙ (slot_of_live slots e live).0))) live)
    (λ _. live_by_slot slots (slots ++ replicate gap none ++ slot ∷ []) e
    (slice_get-append (slots ++ replicate gap none) (slot ∷ []) e.index (omega (arith, length-append slots (replicate gap none))) ∙ slice_get-append slots (replicate gap none) e.index within) live)

-- a taken hint is what is made
pub taken_entity : (slots : List Slot) (free : List ℕ) (hint : Entity) → (creation_as_hinted slots free hint).entity ≡ hint
taken_entity slots free hint =
    cond_both (ltb hint.index (length slots)) (creation_at_free_index slots free hint) (creation_past_end slots free hint) (λ made. made.entity ≡ hint) (λ _. refl) (λ _. refl)

-- and is live
pub taken_is_live : (slots : List Slot) (free : List ℕ) (hint : Entity) → is_live (creation_as_hinted slots free hint).slots hint ≡ true
taken_is_live slots free hint =
    let slot : Slot = live_slot hint.version in
    cond_both (ltb hint.index (length slots)) (creation_at_free_index slots free hint) (creation_past_end slots free hint) (λ made. is_live made.slots hint ≡ true)
    (λ e. let within : hint.index < length slots = ltb-true _ _ e in live_from_slot (set slots hint.index slot) hint (slice_get-set_same slots hint.index slot within))
    (λ e. let past : length slots ≤ hint.index = ltb-false _ _ e in
    let before : List Slot = slots ++ replicate (hint.index - length slots) (free_slot 0) in
    let long : length before ≡ hint.index =
    omega (arith, length-append slots (replicate (hint.index - length slots) (free_slot 0)), length-replicate (hint.index - length slots) (free_slot 0)) in
    live_from_slot (before ++ slot ∷ []) hint (ap (slice_get (before ++ slot ∷ [])) (sym long) ∙ slice_get-push before slot))
