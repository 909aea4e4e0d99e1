-- Slots of which the indices on a part of the free list are free, and all others live.
use Rattle.std.proofs.Common.{◌≡◌, ◌≢◌, ℕ, zero, suc, ◌+◌, ◌<◌, ◌≤◌, Bool, true, false, cond, not, eqb, inl, inr, List, [], ◌∷◌, ◌++◌, set, map, take, drop, get_or, length, Option, Some, None, slice_get, refl, sym, ap, ap₂, subst, ◌∙◌, arith, add-one}
use Rattle.std.specs.Option.{option_map, option_map_or}
use Rattle.std.proofs.Math.Seq.{drop-cons}
use Rattle.std.proofs.lemmas.Bool.{cases_eq, eq-eqb, ne_eqb}
use Rattle.std.proofs.lemmas.List.Sums.{sum_by-take-drop}
use Rattle.std.proofs.lemmas.List.{map-append, take_more}
use Rattle.std.proofs.lemmas.Option.{slice_get-map, slice_get_within, get_or_from_slice_get}
use Rattle.entity_id.proofs.ListLemmas.{slice_get-set_same, slice_get-set_other, equal_by_place}
use Rattle.world_model.specs.declared.slot.Slot.{Slot}
use Rattle.world_model.specs.Slots.{free_slot, live_slot, is_free_at, is_live_at}
use Rattle.world_model.proofs.SlotLemmas.{bit, count_cons}
use Rattle.entity_slots.specs.Threads.{AreListed}
use Rattle.entity_slots.proofs.CountLemmas.{times}

-- a slot with its version, free where its index is on the list
abbrev freed : List ℕ → ℕ → Slot → Slot
freed left i slot = record { version = slot.version; live = eqb (times left i) 0 }

pub record AreFreed (slots made : List Slot) (left : List ℕ) : Type 0 where
  pub each : (i : ℕ) → slice_get made i ≡ option_map (freed left i) (slice_get slots i)

pub none_freed : (slots made : List Slot) → made ≡ map (λ slot. live_slot slot.version) slots → AreFreed slots made []
none_freed slots made is = record {
  each = λ i. ap (λ xs. slice_get xs i) is ∙ slice_get-map (λ (slot : Slot). live_slot slot.version) slots i;
}

module _ (slots made : List Slot) (left : List ℕ) (h : AreFreed slots made left) where
  made_at : (i : ℕ) (slot : Slot) → slice_get slots i ≡ Some slot → slice_get made i ≡ Some (freed left i slot)
  made_at i slot here = h.each i ∙ ap (option_map (freed left i)) here

  -- what isn't on the list is live
  pub live_if_not_freed : (i : ℕ) (slot : Slot) → slice_get slots i ≡ Some slot → times left i ≡ 0 → is_live_at made i ≡ true
  live_if_not_freed i slot here none =
      ap (λ o. option_map_or (λ (it : Slot). it.live) o false) (made_at i slot here) ∙ eq-eqb (times left i) 0 none

  -- one more of them
  pub one_freed : (i : ℕ) (slot : Slot) → slice_get slots i ≡ Some slot → AreFreed slots (set made i (free_slot slot.version)) (i ∷ left)
  one_freed i slot here = record {
    each = λ j. elim (cases_eq j i) [
      | inl same ↦
          let some : bit (eqb i i) ≡ 1 = ap bit (eq-eqb i i refl) in
          let more : times (i ∷ left) i ≢ 0 = λ none. omega (arith, count_cons i i left) in
          let now : Some (free_slot slot.version) ≡ option_map (freed (i ∷ left) i) (slice_get slots i) =
          ap (λ b. let it : Slot = record { version = slot.version; live = b } in Some it) (sym (ne_eqb (times (i ∷ left) i) 0 more)) ∙ ap (option_map (freed (i ∷ left) i)) (sym here) in
          ap (slice_get (set made i (free_slot slot.version))) same
          ∙ slice_get-set_same made i (free_slot slot.version) (slice_get_within made i (freed left i slot) (made_at i slot here))
          ∙ now
          ∙ ap (λ k. option_map (freed (i ∷ left) k) (slice_get slots k)) (sym same)
      | inr apart ↦
          let none : bit (eqb i j) ≡ 0 = ap bit (ne_eqb i j (λ e. apart (sym e))) in
          let same : times left j ≡ times (i ∷ left) j = omega (arith, count_cons j i left) in
          slice_get-set_other made i j (free_slot slot.version) apart ∙ h.each j
          ∙ ap (λ n. option_map (λ (it : Slot). let now : Slot = record { version = it.version; live = eqb n 0 } in now) (slice_get slots j)) same
    ];
  }

  -- the list has each of them once
  pub freed_listed : ((i : ℕ) → times left i ≤ bit (is_free_at slots i)) → AreListed made left
  freed_listed few i =
      found (slice_get slots i) (times left i) (few i)
      ∙ ap (λ o. bit (option_map_or (λ (it : Slot). not it.live) o false)) (sym (h.each i))
    where
      found : (o : Option Slot) (n : ℕ) → n ≤ bit (option_map_or (λ (it : Slot). not it.live) o false)
          → n ≡ bit (option_map_or (λ (it : Slot). not it.live) (option_map (λ (it : Slot). let now : Slot = record { version = it.version; live = eqb n 0 } in now) o) false)
      found None n few = omega arith
      found (Some slot) zero few = refl
      found (Some slot) (suc n) few =
          let most : bit (not slot.live) ≤ 1 = elim slot.live as (λ b. bit (not b) ≤ 1) [ true ↦ omega arith | false ↦ omega arith ] in
          let none : n ≡ 0 = omega arith in
          ap suc none ∙ ap (λ b. bit (not b)) (sym (ne_eqb (suc n) 0 (λ e. omega arith)))

  -- with the whole free list these are the slots
  pub all_freed : AreListed slots left → made ≡ slots
  all_freed listed = equal_by_place made slots (λ i. h.each i ∙ found (slice_get slots i) (times left i) (listed i))
    where
      itself : (slot : Slot) (b : Bool) → b ≡ slot.live → (let now : Slot = record { version = slot.version; live = b } in now) ≡ slot
      itself slot b is = ap (λ live. let now : Slot = record { version = slot.version; live = live } in now) is

      of_bit : (live : Bool) → eqb (bit (not live)) 0 ≡ live
      of_bit true = refl
      of_bit false = refl

      found : (o : Option Slot) (n : ℕ) → n ≡ bit (option_map_or (λ (it : Slot). not it.live) o false)
          → option_map (λ (it : Slot). let now : Slot = record { version = it.version; live = eqb n 0 } in now) o ≡ o
      found None n is = refl
      found (Some slot) n is = ap Some (itself slot (eqb n 0) (ap (λ m. eqb m 0) is ∙ of_bit slot.live))

-- ---- an index on the free list

-- the rest of the list doesn't have it, and it has a slot
pub record IsFreeIndex (slots : List Slot) (free : List ℕ) (place index : ℕ) : Type 0 where
  pub parts : drop place free ≡ index ∷ drop (place + 1) free
  pub none : times (drop (place + 1) free) index ≡ 0
  pub slot : Slot
  pub found : slice_get slots index ≡ Some slot

times-drop : (n : ℕ) (free : List ℕ) (i : ℕ) → times (drop n free) i ≤ times free i
times-drop n free i = let split = sum_by-take-drop (λ k. cond (eqb k i) 1 0) free n in omega arith

pub few_freed : (slots : List Slot) (free : List ℕ) (n : ℕ) → AreListed slots free → (i : ℕ) → times (drop n free) i ≤ bit (is_free_at slots i)
few_freed slots free n listed i = let less = times-drop n free i in omega (arith, listed i)

slot_of_free : (slots : List Slot) (i : ℕ) → 0 < bit (is_free_at slots i) → (slot : Slot) × (slice_get slots i ≡ Some slot)
slot_of_free slots i some = found (slice_get slots i) refl some
  where
    found : (o : Option Slot) → slice_get slots i ≡ o → 0 < bit (option_map_or (λ (it : Slot). not it.live) o false) → (slot : Slot) × (slice_get slots i ≡ Some slot)
    found None is some = absurd (omega arith)
    found (Some slot) is some = (slot, is)

pub free_index : (slots : List Slot) (free : List ℕ) (place index : ℕ) → AreListed slots free → place < length free → index ≡ get_or free place 0 → IsFreeIndex slots free place index
free_index slots free place index listed within is =
    let parts : drop place free ≡ index ∷ drop (place + 1) free = drop-cons free place 0 within ∙ ap₂ (λ i n. i ∷ drop n free) (sym is) (sym (add-one place)) in
    let once : bit (eqb index index) ≡ 1 = ap bit (eq-eqb index index refl) in
    let here : times (drop place free) index ≡ bit (eqb index index) + times (drop (place + 1) free) index = ap (λ xs. times xs index) parts ∙ count_cons index index (drop (place + 1) free) in
    let few = few_freed slots free place listed index in
    let most : bit (is_free_at slots index) ≤ 1 = elim (is_free_at slots index) as (λ b. bit b ≤ 1) [ true ↦ omega arith | false ↦ omega arith ] in
    let slot = slot_of_free slots index (omega arith) in
    record { parts = parts; none = omega arith; slot = slot.0; found = slot.1 }

-- ---- the steps of the loops

-- one slot more, as if it were live
pub next_live : (slots made new : List Slot) (i : ℕ) (d : Slot) → i < length slots → made ≡ map (λ slot. live_slot slot.version) (take i slots)
    → new ≡ made ++ live_slot (get_or slots i d).version ∷ [] → new ≡ map (λ slot. live_slot slot.version) (take (i + 1) slots)
next_live slots made new i d within so_far is =
    is ∙ ap (λ xs. xs ++ live_slot (get_or slots i d).version ∷ []) so_far
    ∙ sym (ap (map (λ (slot : Slot). live_slot slot.version)) (take_more slots i d within) ∙ map-append (λ (slot : Slot). live_slot slot.version) (take i slots) (get_or slots i d ∷ []))

-- one more of the free list
pub next_freed : (slots made new : List Slot) (free : List ℕ) (place index : ℕ) (d : Slot) → AreFreed slots made (drop (place + 1) free) → IsFreeIndex slots free place index
    → new ≡ set made index (free_slot (get_or slots index d).version) → AreFreed slots new (drop place free)
next_freed slots made new free place index d h f is =
    let read : get_or slots index d ≡ f.slot = get_or_from_slice_get slots index f.slot d f.found in
    subst (AreFreed slots new) (sym f.parts)
    (subst (λ (xs : List Slot). AreFreed slots xs (index ∷ drop (place + 1) free)) (sym (is ∙ ap (λ (slot : Slot). set made index (free_slot slot.version)) read))
    (one_freed slots made (drop (place + 1) free) h index f.slot f.found))
