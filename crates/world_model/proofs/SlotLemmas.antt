-- Slots and the free list after a plain creation and after a destroy.
use Rattle.std.proofs.Common.{◌≡◌, ℕ, zero, suc, ◌+◌, ◌<◌, ◌≤◌, ◌≢◌, Bool, true, false, cond, not, ◌&&◌, eqb, List, [], ◌∷◌, ◌++◌, set, length, Option, Some, slice_get, sym, refl, ap, ◌∙◌, subst, inl, inr, arith, length-append, length-set}
use Rattle.std.specs.Prelude.{count_by}
use Rattle.std.specs.List.{AllByRecursion}
use Rattle.std.specs.Option.{option_map_or}
use Rattle.std.proofs.lemmas.List.Sums.{sum_by-cons}
use Rattle.std.proofs.lemmas.Bool.Decides.{nat_tests}
use Rattle.std.proofs.lemmas.Bool.{cases_eq, eq-eqb, ne_eqb, both_ways}
use Rattle.entity_id.specs.declared.entity.Entity.{Entity}
use Rattle.entity_id.specs.declared.entity.Profile.{Profile}
use Rattle.entity_id.specs.Identifiers.{IsOfProfile, is_same, next_version}
use Rattle.entity_id.proofs.ListLemmas.{all-append}
use Rattle.world_model.specs.declared.slot.Slot.{Slot}
use Rattle.world_model.specs.Slots.{AreLawfulSlots, is_live, is_live_at, is_free_at, version_at, live_slot, free_slot, plain_creation, slots_after_destroy}
use Rattle.world_model.proofs.ListLemmas.{passes_within, slice_get-set_same, slice_get-set_other, slice_get-append, all-set}

-- ---- one slot

-- 1 where the test holds, and else 0
abbrev pub bit : Bool → ℕ
bit b = cond b 1 0

-- std counts by a fold from the front, so the first element has to be split off
pub count_cons : (j i : ℕ) (free : List ℕ) → count_by (λ k. eqb k j) (i ∷ free) ≡ bit (eqb i j) + count_by (λ k. eqb k j) free
count_cons j i free = sum_by-cons (λ k. cond (eqb k j) 1 0) i free

-- an identifier stays live where its slot stays
pub live_by_slot : (slots after : List Slot) (e : Entity) → slice_get after e.index ≡ slice_get slots e.index → is_live slots e ≡ true → is_live after e ≡ true
live_by_slot slots after e same h =
    ap (λ (found : Option Slot). option_map_or (λ slot. slot.live && eqb slot.version e.version) found false) same ∙ h

-- an identifier is live where its slot is, with its version
pub live_from_slot : (slots : List Slot) (e : Entity) → slice_get slots e.index ≡ Some (live_slot e.version) → is_live slots e ≡ true
live_from_slot slots e there =
    ap (λ (found : Option Slot). option_map_or (λ slot. slot.live && eqb slot.version e.version) found false) there
    ∙ eq-eqb e.version e.version refl

-- an index is not both live and free
pub not_both : (slots : List Slot) (i : ℕ) → is_live_at slots i ≡ true → is_free_at slots i ≡ false
not_both slots i h = grind arith

-- a live identifier's slot is live, with its version
pub slot_of_live : (slots : List Slot) (e : Entity) → is_live slots e ≡ true → (is_live_at slots e.index ≡ true) × (version_at slots e.index ≡ e.version)
slot_of_live slots e h = (grind arith, grind (arith, nat_tests))

pub live_within : (slots : List Slot) (i : ℕ) → is_live_at slots i ≡ true → i < length slots
live_within slots i h = passes_within (λ slot. slot.live) slots i h

free_within : (slots : List Slot) (i : ℕ) → is_free_at slots i ≡ true → i < length slots
free_within slots i h = passes_within (λ slot. not slot.live) slots i h

-- of what stands in the list, at least one is counted
listed_free : (slots : List Slot) (i : ℕ) (free : List ℕ) → count_by (λ j. eqb j i) (i ∷ free) ≡ bit (is_free_at slots i) → is_free_at slots i ≡ true
listed_free slots i free h = grind (arith, nat_tests, count_cons i i free)

pub free_at-set_same : (slots : List Slot) (i : ℕ) (s : Slot) → i < length slots → is_free_at (set slots i s) i ≡ not s.live
free_at-set_same slots i s h = ap (λ o. option_map_or (λ (slot : Slot). not slot.live) o false) (slice_get-set_same slots i s h)

pub free_at-set_other : (slots : List Slot) (i j : ℕ) (s : Slot) → j ≢ i → is_free_at (set slots i s) j ≡ is_free_at slots j
free_at-set_other slots i j s h = ap (λ o. option_map_or (λ (slot : Slot). not slot.live) o false) (slice_get-set_other slots i j s h)

pub free_at-push : (slots : List Slot) (j : ℕ) (s : Slot) → s.live ≡ true → is_free_at (slots ++ s ∷ []) j ≡ is_free_at slots j
free_at-push [] zero s h = ap not h
free_at-push [] (suc j) s h = refl
free_at-push (x ∷ xs) zero s h = refl
free_at-push (x ∷ xs) (suc j) s h = free_at-push xs j s h

version_below : (profile : Profile) (slots : List Slot) (i : ℕ) → AllByRecursion (λ (slot : Slot). slot.version < profile.version_limit) slots → i < length slots → version_at slots i < profile.version_limit
version_below profile [] i h l = absurd (omega arith)
version_below profile (s ∷ slots) zero h l = h.0
version_below profile (s ∷ slots) (suc i) h l = version_below profile slots i h.1 (omega arith)

-- ---- a plain creation

-- a slot that is pushed stands past the others
pub slice_get-push : {X : Type 0} (xs : List X) (x : X) → slice_get (xs ++ x ∷ []) (length xs) ≡ Some x
slice_get-push [] x = refl
slice_get-push (y ∷ xs) x = slice_get-push xs x

-- the counts of the free list once its top is gone
count_tail : (slots after : List Slot) (i j : ℕ) (free : List ℕ) → count_by (λ k. eqb k j) (i ∷ free) ≡ bit (is_free_at slots j)
    → (j ≡ i → is_free_at after j ≡ false) → (j ≢ i → is_free_at after j ≡ is_free_at slots j) → is_free_at slots i ≡ true
    → count_by (λ k. eqb k j) free ≡ bit (is_free_at after j)
count_tail slots after i j free h same other was =
    elim (cases_eq j i) [
      | inl e ↦ let gone = same e in let before = ap (is_free_at slots) e ∙ was in grind (arith, nat_tests, count_cons j i free)
      | inr n ↦ let kept = other n in grind (arith, nat_tests, count_cons j i free)
    ]

-- a plain creation keeps the slots lawful
pub created_slots : (profile : Profile) (limit : ℕ) (slots : List Slot) (free : List ℕ) → 0 < profile.version_limit → (free ≡ [] → length slots < limit) → AreLawfulSlots profile limit slots free
    → AreLawfulSlots profile limit (plain_creation slots free).slots (plain_creation slots free).free
created_slots profile limit slots [] some room h =
    record {
      few = let less : length slots < limit = room refl in omega (arith, length-append slots (live_slot 0 ∷ []));
      addressable = h.addressable;
      versions = all-append _ slots (live_slot 0 ∷ []) h.versions (some, tt);
      listed = λ j. h.listed j ∙ ap bit (sym (free_at-push slots j (live_slot 0) refl));
    }
created_slots profile limit slots (i ∷ free) some room h =
    let was : is_free_at slots i ≡ true = listed_free slots i free (h.listed i) in
    let within : i < length slots = free_within slots i was in
    let slot : Slot = live_slot (version_at slots i) in
    record {
      few = let few : length slots ≤ limit = h.few in omega (arith, length-set slots i slot);
      addressable = h.addressable;
      versions = all-set _ slots i slot h.versions (version_below profile slots i h.versions within);
      listed = λ j. count_tail slots (set slots i slot) i j free (h.listed j)
          (λ e. ap (is_free_at (set slots i slot)) e ∙ free_at-set_same slots i slot within) (λ n. free_at-set_other slots i j slot n) was;
    }

-- a plain creation leaves what was live
pub created_live : (profile : Profile) (limit : ℕ) (slots : List Slot) (free : List ℕ) (e : Entity) → AreLawfulSlots profile limit slots free → is_live slots e ≡ true → is_live (plain_creation slots free).slots e ≡ true
created_live profile limit slots [] e h live =
    live_by_slot slots (slots ++ live_slot 0 ∷ []) e (slice_get-append slots _ e.index (live_within slots e.index (slot_of_live slots e live).0)) live
created_live profile limit slots (i ∷ free) e h live =
    let slot : Slot = live_slot (version_at slots i) in
    let apart : e.index ≢ i = λ same. both_ways (is_free_at slots i) (ap (is_free_at slots) (sym same) ∙ not_both slots e.index (slot_of_live slots e live).0) (listed_free slots i free (h.listed i)) in
    live_by_slot slots (set slots i slot) e (slice_get-set_other slots i e.index slot apart) live

-- what a plain creation makes is live
pub created_is_live : (profile : Profile) (limit : ℕ) (slots : List Slot) (free : List ℕ) → AreLawfulSlots profile limit slots free → is_live (plain_creation slots free).slots (plain_creation slots free).entity ≡ true
created_is_live profile limit slots [] h = live_from_slot (slots ++ live_slot 0 ∷ []) (record { index = length slots; version = 0 }) (slice_get-push slots (live_slot 0))
created_is_live profile limit slots (i ∷ free) h =
    let version : ℕ = version_at slots i in
    live_from_slot (set slots i (live_slot version)) (record { index = i; version = version })
    (slice_get-set_same slots i (live_slot version) (free_within slots i (listed_free slots i free (h.listed i))))

-- a live identifier's index and version are below the limits
pub live_below : (profile : Profile) (limit : ℕ) (slots : List Slot) (free : List ℕ) (e : Entity) → AreLawfulSlots profile limit slots free → is_live slots e ≡ true → (e.index < limit) × (e.version < profile.version_limit)
live_below profile limit slots free e h live =
    let is : (is_live_at slots e.index ≡ true) × (version_at slots e.index ≡ e.version) = slot_of_live slots e live in
    let within : e.index < length slots = live_within slots e.index is.0 in
    let few : length slots ≤ limit = h.few in
    (omega arith, subst (λ (v : ℕ). v < profile.version_limit) is.1 (version_below profile slots e.index h.versions within))

-- and so it is an identifier of the profile
pub live_of_profile : (profile : Profile) (limit : ℕ) (slots : List Slot) (free : List ℕ) (e : Entity) → AreLawfulSlots profile limit slots free → is_live slots e ≡ true → IsOfProfile profile e
live_of_profile profile limit slots free e h live =
    let low = live_below profile limit slots free e h live in
    let addressable : limit ≤ profile.index_limit = h.addressable in
    record { index = omega (arith, low.0); version = omega (arith, low.1) }

-- ---- a destroy

next_below : (profile : Profile) (version : ℕ) → version < profile.version_limit → next_version profile version < profile.version_limit
next_below profile version h = grind (arith, nat_tests)

-- a destroy keeps the slots lawful
pub released_slots : (profile : Profile) (limit : ℕ) (slots : List Slot) (free : List ℕ) (e : Entity) → is_live slots e ≡ true → AreLawfulSlots profile limit slots free → AreLawfulSlots profile limit (slots_after_destroy profile slots e) (e.index ∷ free)
released_slots profile limit slots free e live h =
    let is : (is_live_at slots e.index ≡ true) × (version_at slots e.index ≡ e.version) = slot_of_live slots e live in
    let within : e.index < length slots = live_within slots e.index is.0 in
    let slot : Slot = free_slot (next_version profile e.version) in
    record {
      few = let few : length slots ≤ limit = h.few in omega (arith, length-set slots e.index slot);
      addressable = h.addressable;
      versions = all-set _ slots e.index slot h.versions (next_below profile e.version (live_below profile limit slots free e h live).1);
      listed = λ j. elim (cases_eq j e.index) [
        | inl same ↦
            let one : bit (eqb e.index j) ≡ 1 = ap bit (eq-eqb e.index j (sym same)) in
            let before : count_by (λ k. eqb k j) free ≡ 0 = h.listed j ∙ ap bit (ap (is_free_at slots) same ∙ not_both slots e.index is.0) in
            let after : bit (is_free_at (set slots e.index slot) j) ≡ 1 = ap bit (ap (is_free_at (set slots e.index slot)) same ∙ free_at-set_same slots e.index slot within) in
            omega (arith, count_cons j e.index free)
        | inr apart ↦
            let none : bit (eqb e.index j) ≡ 0 = ap bit (ne_eqb e.index j (λ s. apart (sym s))) in
            let after : bit (is_free_at (set slots e.index slot) j) ≡ bit (is_free_at slots j) = ap bit (free_at-set_other slots e.index j slot apart) in
            omega (arith, h.listed j, count_cons j e.index free)
      ];
    }

-- two live identifiers of one index are one
pub live_once : (slots : List Slot) (e q : Entity) → is_live slots e ≡ true → is_live slots q ≡ true → q.index ≡ e.index → is_same e q ≡ true
live_once slots e q live live_too same = grind (arith, nat_tests)

-- a destroy leaves every other identifier that was live
pub released_live : (profile : Profile) (slots : List Slot) (e q : Entity) → is_live slots e ≡ true → is_live slots q ≡ true → is_same e q ≡ false → is_live (slots_after_destroy profile slots e) q ≡ true
released_live profile slots e q live live_too differ =
    let apart : q.index ≢ e.index = λ same. both_ways (is_same e q) differ (live_once slots e q live live_too same) in
    live_by_slot slots _ q (slice_get-set_other slots e.index q.index _ apart) live_too

-- and the destroyed one is live no more
pub released_dead : (profile : Profile) (slots : List Slot) (e : Entity) → is_live slots e ≡ true → is_live (slots_after_destroy profile slots e) e ≡ false
released_dead profile slots e live =
    let within : e.index < length slots = live_within slots e.index (slot_of_live slots e live).0 in
    ap (λ (found : Option Slot). option_map_or (λ slot. slot.live && eqb slot.version e.version) found false)
    (slice_get-set_same slots e.index (free_slot (next_version profile e.version)) within)
