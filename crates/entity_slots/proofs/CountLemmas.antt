-- How many slots are free, as many as the free list has entries, and how many are live.
use Rattle.std.proofs.Common.{◌≡◌, ℕ, zero, suc, ◌+◌, ◌<◌, ◌≤◌, true, false, not, eqb, inl, inr, List, [], ◌∷◌, ◌++◌, set, replicate, length, length-set, refl, sym, ap, ap₂, ◌∙◌, arith}
use Rattle.std.specs.Prelude.{count_by}
use Rattle.std.specs.Option.{option_map_or}
use Rattle.std.proofs.lemmas.List.Sums.{sum_by-cons, sum_by-append, count_by-le-length}
use Rattle.std.proofs.lemmas.Bool.{cases_lt, eq-eqb}
use Rattle.std.proofs.lemmas.Bool.Decides.{nat_tests}
use Rattle.std.proofs.lemmas.Option.{slice_get_past}
use Rattle.world_model.specs.declared.slot.Slot.{Slot}
use Rattle.world_model.specs.Slots.{is_live_at, is_free_at, live_slot, free_slot}
use Rattle.world_model.proofs.SlotLemmas.{bit, count_cons}

-- how often an index stands on a list
abbrev pub times : List ℕ → ℕ → ℕ
times free index = count_by (λ other. eqb other index) free

-- how many slots are free
abbrev pub free_count : List Slot → ℕ
free_count slots = count_by (λ slot. not slot.live) slots

free_count-cons : (slot : Slot) (slots : List Slot) → free_count (slot ∷ slots) ≡ bit (not slot.live) + free_count slots
free_count-cons slot slots = sum_by-cons (λ slot. bit (not slot.live)) slot slots

-- ---- sums over the numbers below one

abbrev sum_below : (ℕ → ℕ) → ℕ → ℕ
sum_below f zero = 0
sum_below f (suc n) = f 0 + sum_below (λ i. f (suc i)) n

sum_below-same : (f g : ℕ → ℕ) (n : ℕ) → ((i : ℕ) → f i ≡ g i) → sum_below f n ≡ sum_below g n
sum_below-same f g zero same = refl
sum_below-same f g (suc n) same = ap₂ (λ a b. a + b) (same 0) (sum_below-same (λ i. f (suc i)) (λ i. g (suc i)) n (λ i. same (suc i)))

sum_below-zero : (f : ℕ → ℕ) (n : ℕ) → ((i : ℕ) → f i ≡ 0) → sum_below f n ≡ 0
sum_below-zero f zero none = refl
sum_below-zero f (suc n) none = ap₂ (λ a b. a + b) (none 0) (sum_below-zero (λ i. f (suc i)) n (λ i. none (suc i)))

sum_below-plus : (f g : ℕ → ℕ) (n : ℕ) → sum_below (λ i. f i + g i) n ≡ sum_below f n + sum_below g n
sum_below-plus f g zero = refl
sum_below-plus f g (suc n) = let rest = sum_below-plus (λ i. f (suc i)) (λ i. g (suc i)) n in omega arith

eqb-suc : (a b : ℕ) → eqb (suc a) (suc b) ≡ eqb a b
eqb-suc a b = grind (arith, nat_tests)

-- one number below n is each of them once
one_below : (index n : ℕ) → index < n → sum_below (λ i. bit (eqb index i)) n ≡ 1
one_below index zero within = absurd (omega arith)
one_below zero (suc n) within =
    ap (λ k. 1 + k) (sum_below-zero (λ i. bit (eqb 0 (suc i))) n (λ i. grind (arith, nat_tests)))
one_below (suc index) (suc n) within =
    let first : bit (eqb (suc index) 0) ≡ 0 = grind (arith, nat_tests) in
    let rest = sum_below-same (λ i. bit (eqb (suc index) (suc i))) (λ i. bit (eqb index i)) n (λ i. ap bit (eqb-suc index i))
    ∙ one_below index n (omega arith) in
    ap₂ (λ a b. a + b) first rest

-- numbers below n are as many as the times that each stands there, all together
times_below : (free : List ℕ) (n : ℕ) → ((i : ℕ) → n ≤ i → times free i ≡ 0) → sum_below (times free) n ≡ length free
times_below [] n past = sum_below-zero _ n (λ i. refl)
times_below (first ∷ free) n past =
    let here : times (first ∷ free) first ≡ bit (eqb first first) + times free first = count_cons first first free in
    let once : bit (eqb first first) ≡ 1 = ap bit (eq-eqb first first refl) in
    let within : first < n = elim (cases_lt first n) [
      | inl less ↦ less
      | inr more ↦ let none = past first more in absurd (omega arith)
    ] in
    let rest : sum_below (times free) n ≡ length free =
    times_below free n (λ i more. let split = count_cons i first free in let none = past i more in omega arith) in
    let split : sum_below (times (first ∷ free)) n ≡ sum_below (λ i. bit (eqb first i) + times free i) n =
    sum_below-same (times (first ∷ free)) (λ i. bit (eqb first i) + times free i) n (λ i. count_cons i first free) in
    let parts = sum_below-plus (λ i. bit (eqb first i)) (times free) n in
    let one = one_below first n within in
    omega arith

free_below : (slots : List Slot) → sum_below (λ i. bit (is_free_at slots i)) (length slots) ≡ free_count slots
free_below [] = refl
free_below (slot ∷ slots) = ap (λ n. bit (not slot.live) + n) (free_below slots) ∙ sym (free_count-cons slot slots)

free_at_past : (slots : List Slot) (i : ℕ) → length slots ≤ i → is_free_at slots i ≡ false
free_at_past slots i past = ap (λ o. option_map_or (λ (slot : Slot). not slot.live) o false) (slice_get_past slots i past)

-- ---- what the calls cite

-- a list on which each free index stands once, and nothing else, is as long as there are free slots
pub length_free : (slots : List Slot) (free : List ℕ) → ((i : ℕ) → times free i ≡ bit (is_free_at slots i)) → length free ≡ free_count slots
length_free slots free listed =
    sym (times_below free (length slots) (λ i past. listed i ∙ ap bit (free_at_past slots i past)))
    ∙ sum_below-same (times free) (λ i. bit (is_free_at slots i)) (length slots) listed
    ∙ free_below slots

-- a slot is live or free
pub live_or_free : (slots : List Slot) → count_by (λ slot. slot.live) slots + free_count slots ≡ length slots
live_or_free [] = refl
live_or_free (slot ∷ slots) =
    let live = sum_by-cons (λ (slot : Slot). bit slot.live) slot slots in
    let free = free_count-cons slot slots in
    let rest = live_or_free slots in
    let one : bit slot.live + bit (not slot.live) ≡ 1 = elim slot.live as (λ b. bit b + bit (not b) ≡ 1) [ true ↦ refl | false ↦ refl ] in
    omega arith

-- where one slot is live, fewer are free than there are
pub fewer_free : (slots : List Slot) (i : ℕ) → is_live_at slots i ≡ true → free_count slots < length slots
fewer_free [] i live = cc
fewer_free (slot ∷ slots) zero live =
    let split = free_count-cons slot slots in
    let here : bit (not slot.live) ≡ 0 = ap (λ b. bit (not b)) live in
    let most = count_by-le-length (λ (slot : Slot). not slot.live) slots in
    omega arith
fewer_free (slot ∷ slots) (suc i) live =
    let split = free_count-cons slot slots in
    let rest = fewer_free slots i live in
    let here : bit (not slot.live) ≤ 1 = elim slot.live as (λ b. bit (not b) ≤ 1) [ true ↦ omega arith | false ↦ omega arith ] in
    omega arith

-- ---- how many are live, after a change

-- how many slots are live
abbrev pub live_count : List Slot → ℕ
live_count slots = count_by (λ slot. slot.live) slots

live_count-cons : (slot : Slot) (slots : List Slot) → live_count (slot ∷ slots) ≡ bit slot.live + live_count slots
live_count-cons slot slots = sum_by-cons (λ (it : Slot). bit it.live) slot slots

pub live_count-freed : (slots : List Slot) (i version : ℕ) → is_live_at slots i ≡ true → live_count (set slots i (free_slot version)) + 1 ≡ live_count slots
live_count-freed [] i version live = cc
live_count-freed (slot ∷ slots) zero version live =
    let was : bit slot.live ≡ 1 = ap bit live in omega (arith, live_count-cons slot slots, live_count-cons (free_slot version) slots)
live_count-freed (slot ∷ slots) (suc i) version live =
    let rest = live_count-freed slots i version live in
    omega (arith, live_count-cons slot slots, live_count-cons slot (set slots i (free_slot version)))

pub live_count-taken : (slots : List Slot) (i version : ℕ) → is_free_at slots i ≡ true → live_count (set slots i (live_slot version)) ≡ live_count slots + 1
live_count-taken [] i version free = cc
live_count-taken (slot ∷ slots) zero version free =
    let was : bit slot.live ≡ 0 = elim slot.live as (λ b. not b ≡ true → bit b ≡ 0) [ true ↦ λ no. cc | false ↦ λ _. refl ] free in
    omega (arith, live_count-cons slot slots, live_count-cons (live_slot version) slots)
live_count-taken (slot ∷ slots) (suc i) version free =
    let rest = live_count-taken slots i version free in
    omega (arith, live_count-cons slot slots, live_count-cons slot (set slots i (live_slot version)))

-- one live slot more, behind so many free ones
pub live_count-past : (slots : List Slot) (gap version : ℕ) → live_count (slots ++ replicate gap (free_slot 0) ++ live_slot version ∷ []) ≡ live_count slots + 1
live_count-past slots gap version =
    let last : live_count (live_slot version ∷ []) ≡ 1 = refl in
    let none : live_count (replicate gap (free_slot 0)) ≡ 0 = no_live gap in
    omega (arith, sum_by-append (λ (it : Slot). bit it.live) (slots ++ replicate gap (free_slot 0)) (live_slot version ∷ []), sum_by-append (λ (it : Slot). bit it.live) slots (replicate gap (free_slot 0)))
  where
    no_live : (n : ℕ) → live_count (replicate n (free_slot 0)) ≡ 0
    no_live zero = refl
    no_live (suc n) = let rest = no_live n in omega (arith, live_count-cons (free_slot 0) (replicate n (free_slot 0)))

pub live_count-push : (slots : List Slot) (version : ℕ) → live_count (slots ++ live_slot version ∷ []) ≡ live_count slots + 1
live_count-push slots version = sum_by-append (λ (it : Slot). bit it.live) slots (live_slot version ∷ [])

-- where a slot is free, fewer are live than there are
pub fewer_live : (slots : List Slot) (i : ℕ) → is_free_at slots i ≡ true → live_count slots < length slots
fewer_live slots i free =
    let more = live_count-taken slots i 0 free in
    omega (arith, length-set slots i (live_slot 0), count_by-le-length (λ (it : Slot). it.live) (set slots i (live_slot 0)))

-- and where one is live, that one is counted
pub some_live : (slots : List Slot) (i : ℕ) → is_live_at slots i ≡ true → 0 < live_count slots
some_live slots i live = let less = live_count-freed slots i 0 live in omega arith
