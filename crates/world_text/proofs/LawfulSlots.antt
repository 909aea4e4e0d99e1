-- The free list of admissible lines: an index stands on it once at most, and only that of a free slot.
use Rattle.std.proofs.Common.{◌≡◌, ◌≢◌, ◌⊎◌, ℕ, zero, suc, ◌+◌, Bool, true, false, not, cond, ◌||◌, eqb, List, [], ◌∷◌, ◌++◌, get_or, refl, sym, ap, ◌∙◌, arith, inl, inr}
use Rattle.std.specs.Prelude.{◌==◌, if◌then◌else◌}
use Rattle.std.specs.List.{list_any, list_all, count_by}
use Rattle.std.proofs.lemmas.List.Sums.{sum_by-append}
use Rattle.std.proofs.lemmas.Bool.{or_parts, and_parts, false≢true, true≢false, eqb-true}
use Rattle.world_model.specs.declared.slot.Slot.{Slot}
use Rattle.world_model.specs.Slots.{is_free_at}
use Rattle.world_text.specs.Meaning.{settled_from}

-- how often an index stands on a list
abbrev pub times : List ℕ → ℕ → ℕ
times free index = count_by (λ other. other == index) free

-- an index stands on the list not at all, or once and has a free slot
abbrev pub IsListed : List Slot → List ℕ → ℕ → Type 0
IsListed slots free index = (times free index ≡ 0) ⊎ ((times free index ≡ 1) × (is_free_at slots index ≡ true))

times_cons : (other : ℕ) (free : List ℕ) (index : ℕ) → times (other ∷ free) index ≡ cond (eqb other index) 1 0 + times free index
times_cons other free index = omega (arith, sum_by-append (λ k. cond (eqb k index) 1 0) (other ∷ []) free)

times_push : (free : List ℕ) (other index : ℕ) → times (free ++ other ∷ []) index ≡ times free index + cond (eqb other index) 1 0
times_push free other index = omega (arith, sum_by-append (λ k. cond (eqb k index) 1 0) free (other ∷ []))

times_cases : (t : Bool) (n m : ℕ) (b : Bool) → n ≡ cond t 1 0 + m → ((b ≡ false) × (m ≡ 0)) ⊎ ((b ≡ true) × (m ≢ 0)) → (((t || b) ≡ false) × (n ≡ 0)) ⊎ (((t || b) ≡ true) × (n ≢ 0))
times_cases true n m b is rest = inr (refl, omega arith)
times_cases false n m b is (inl none) = let here = none.1 in inl (none.0, omega arith)
times_cases false n m b is (inr some) = inr (some.0, λ none. some.1 (omega arith))

-- whether an index stands on the list is whether it stands there a number of times
on_list : (free : List ℕ) (index : ℕ) → ((list_any (λ other. other == index) free ≡ false) × (times free index ≡ 0)) ⊎ ((list_any (λ other. other == index) free ≡ true) × (times free index ≢ 0))
on_list [] index = inl (refl, refl)
on_list (other ∷ free) index = times_cases (eqb other index) _ (times free index) _ (times_cons other free index) (on_list free index)

-- ---- settled slots

-- a slot that is not settled is free, and its index is not on the list
unsettled_parts : (i k : ℕ) (slots : List Slot) (free : List ℕ) → get_or (settled_from i slots free) k true ≡ false → (is_free_at slots k ≡ true) × (list_any (λ other. other == (i + k)) free ≡ false)
unsettled_parts i k [] free open_slot = absurd (true≢false open_slot)
unsettled_parts i zero (slot ∷ slots) free open_slot =
    let parts = or_parts slot.live (list_any (λ other. other == i) free) open_slot in
    let at : i ≡ i + 0 = omega arith in
    (ap not parts.0, ap (λ m. list_any (λ other. other == m) free) (sym at) ∙ parts.1)
unsettled_parts i (suc k) (slot ∷ slots) free open_slot =
    let parts = unsettled_parts (suc i) k slots free open_slot in
    let at : i + suc k ≡ suc i + k = omega arith in
    (parts.0, ap (λ m. list_any (λ other. other == m) free) at ∙ parts.1)

settled_free : (live any : Bool) → (live || any) ≡ true → not live ≡ true → any ≡ true
settled_free true any settled_here free_here = absurd (false≢true free_here)
settled_free false any settled_here free_here = settled_here

-- where all slots are settled, a free slot's index is on the list
settled_parts : (i k : ℕ) (slots : List Slot) (free : List ℕ) → list_all (λ flag. flag) (settled_from i slots free) ≡ true → is_free_at slots k ≡ true → list_any (λ other. other == (i + k)) free ≡ true
settled_parts i k [] free all_settled free_here = absurd (false≢true free_here)
settled_parts i zero (slot ∷ slots) free all_settled free_here =
    let parts = and_parts (slot.live || list_any (λ other. other == i) free) (list_all (λ flag. flag) (settled_from (suc i) slots free)) all_settled in
    let at : i ≡ i + 0 = omega arith in
    ap (λ m. list_any (λ other. other == m) free) (sym at) ∙ settled_free slot.live _ parts.0 free_here
settled_parts i (suc k) (slot ∷ slots) free all_settled free_here =
    let parts = and_parts (slot.live || list_any (λ other. other == i) free) (list_all (λ flag. flag) (settled_from (suc i) slots free)) all_settled in
    let at : i + suc k ≡ suc i + k = omega arith in
    ap (λ m. list_any (λ other. other == m) free) at ∙ settled_parts (suc i) k slots free parts.1 free_here

-- ---- the list after one index more

listed_cases : (slots : List Slot) (free : List ℕ) (other index : ℕ) (t : Bool) → t ≡ eqb other index → times (free ++ other ∷ []) index ≡ times free index + cond t 1 0 → (times free other ≡ 0) × (is_free_at slots other ≡ true) → IsListed slots free index → IsListed slots (free ++ other ∷ []) index
listed_cases slots free other index true is gained here listed =
    let at : other ≡ index = eqb-true other index (sym is) in
    let none : times free index ≡ 0 = ap (times free) (sym at) ∙ here.0 in
    inr (omega arith, ap (is_free_at slots) (sym at) ∙ here.1)
listed_cases slots free other index false is gained here (inl none) = inl (omega arith)
listed_cases slots free other index false is gained here (inr once) = let count = once.0 in inr (omega arith, once.1)

-- the index of a slot that is not settled goes on the list
pub listed_push : (slots : List Slot) (free : List ℕ) (other : ℕ) → get_or (settled_from 0 slots free) other true ≡ false → ((index : ℕ) → IsListed slots free index) → (index : ℕ) → IsListed slots (free ++ other ∷ []) index
listed_push slots free other open_slot listed index =
    let parts = unsettled_parts 0 other slots free open_slot in
    let at : 0 + other ≡ other = omega arith in
    let absent : list_any (λ k. k == other) free ≡ false = ap (λ m. list_any (λ k. k == m) free) (sym at) ∙ parts.1 in
    let none : times free other ≡ 0 = elim (on_list free other) [
      | inl not_there ↦ not_there.1
      | inr is_there ↦ absurd (false≢true (sym absent ∙ is_there.0))
    ] in
    listed_cases slots free other index (eqb other index) refl (times_push free other index) (none, parts.0) (listed index)

times_are : (free_here : Bool) (n : ℕ) → (n ≡ 0) ⊎ ((n ≡ 1) × (free_here ≡ true)) → (free_here ≡ true → n ≢ 0) → n ≡ (if free_here then 1 else 0)
times_are true n (inl none) there = absurd (there refl none)
times_are true n (inr once) there = once.0
times_are false n (inl none) there = none
times_are false n (inr once) there = absurd (false≢true once.1)

-- where all slots are settled, the list has each free slot's index once, and no other
pub all_listed : (slots : List Slot) (free : List ℕ) → list_all (λ flag. flag) (settled_from 0 slots free) ≡ true → ((index : ℕ) → IsListed slots free index) → (index : ℕ) → times free index ≡ (if is_free_at slots index then 1 else 0)
all_listed slots free all_settled listed index =
    times_are (is_free_at slots index) (times free index) (listed index)
    (λ free_here.
    let at : 0 + index ≡ index = omega arith in
    let present : list_any (λ k. k == index) free ≡ true = ap (λ m. list_any (λ k. k == m) free) (sym at) ∙ settled_parts 0 index slots free all_settled free_here in
    elim (on_list free index) [
      | inl not_there ↦ absurd (false≢true (sym not_there.0 ∙ present))
      | inr is_there ↦ is_there.1
    ])
