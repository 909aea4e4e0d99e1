-- What a list of identifiers stands for after a change: its slots, and the free indices that are threaded through it.
use Rattle.std.proofs.Common.{◌≡◌, ◌≢◌, ℕ, zero, suc, ◌+◌, ◌<◌, ◌≤◌, true, false, cond, eqb, ltb, List, [], ◌∷◌, ◌++◌, set, length, Some, slice_get, refl, sym, ap, subst, ◌∙◌, arith, add-zero, zero-add}
use Rattle.std.specs.Option.{option_map, option_map_or}
use Rattle.std.proofs.lemmas.Bool.{eq-eqb, ne_eqb, lt-ltb, le-ltb}
use Rattle.entity_id.specs.declared.entity.Entity.{Entity}
use Rattle.entity_id.proofs.ListLemmas.{slice_get-set_same, slice_get-set_other, slice_get-append}
use Rattle.world_model.specs.declared.slot.Slot.{Slot}
use Rattle.world_model.specs.Slots.{free_slot, live_slot}
use Rattle.world_model.proofs.SlotLemmas.{bit, count_cons}
use Rattle.entity_slots.specs.Threads.{slot_at, slots_from, next_at, chain, IsChain}
use Rattle.entity_slots.proofs.CountLemmas.{times}

-- ---- the slots

pub slots_from-set : (first : ℕ) (list : List Entity) (i : ℕ) (e : Entity) → slots_from first (set list i e) ≡ set (slots_from first list) i (slot_at (first + i) e)
slots_from-set first [] i e = refl
slots_from-set first (x ∷ list) zero e = ap (λ n. slot_at n e ∷ slots_from (first + 1) list) (sym (add-zero first))
slots_from-set first (x ∷ list) (suc i) e =
    let next : (first + 1) + i ≡ first + suc i = omega arith in
    ap (λ rest. slot_at first x ∷ rest) (slots_from-set (first + 1) list i e ∙ ap (λ n. set (slots_from (first + 1) list) i (slot_at n e)) next)

pub slots_from-push : (first : ℕ) (list : List Entity) (e : Entity) → slots_from first (list ++ e ∷ []) ≡ slots_from first list ++ slot_at (first + length list) e ∷ []
slots_from-push first [] e = ap (λ n. slot_at n e ∷ []) (sym (add-zero first))
slots_from-push first (x ∷ list) e =
    let next : (first + 1) + length list ≡ first + suc (length list) = omega arith in
    ap (λ rest. slot_at first x ∷ rest) (slots_from-push (first + 1) list e ∙ ap (λ n. slots_from (first + 1) list ++ slot_at n e ∷ []) next)

pub length-slots_from : (first : ℕ) (list : List Entity) → length (slots_from first list) ≡ length list
length-slots_from first [] = refl
length-slots_from first (x ∷ list) = ap suc (length-slots_from (first + 1) list)

pub slice_get-slots_from : (first : ℕ) (list : List Entity) (i : ℕ) → slice_get (slots_from first list) i ≡ option_map (slot_at (first + i)) (slice_get list i)
slice_get-slots_from first [] i = refl
slice_get-slots_from first (x ∷ list) zero = ap (λ n. Some (slot_at n x)) (sym (add-zero first))
slice_get-slots_from first (x ∷ list) (suc i) =
    let next : (first + 1) + i ≡ first + suc i = omega arith in
    slice_get-slots_from (first + 1) list i ∙ ap (λ n. option_map (slot_at n) (slice_get list i)) next

-- the slot of an index is the one that its identifier says
pub slot_found : (list : List Entity) (i : ℕ) → slice_get (slots_from 0 list) i ≡ option_map (slot_at i) (slice_get list i)
slot_found list i = slice_get-slots_from 0 list i ∙ ap (λ n. option_map (slot_at n) (slice_get list i)) (zero-add i)

pub slots_of-set : (list : List Entity) (i : ℕ) (e : Entity) → slots_from 0 (set list i e) ≡ set (slots_from 0 list) i (slot_at i e)
slots_of-set list i e = slots_from-set 0 list i e ∙ ap (λ n. set (slots_from 0 list) i (slot_at n e)) (zero-add i)

pub slots_of-push : (list : List Entity) (e : Entity) → slots_from 0 (list ++ e ∷ []) ≡ slots_from 0 list ++ slot_at (length list) e ∷ []
slots_of-push list e = slots_from-push 0 list e ∙ ap (λ n. slots_from 0 list ++ slot_at n e ∷ []) (zero-add (length list))

-- a live identifier has its own index, and a free one another
pub slot_at-own : (i version : ℕ) → slot_at i (record { index = i; version = version }) ≡ live_slot version
slot_at-own i version = ap (λ b. let slot : Slot = record { version = version; live = b } in slot) (eq-eqb i i refl)

pub slot_at-other : (i other version : ℕ) → other ≢ i → slot_at i (record { index = other; version = version }) ≡ free_slot version
slot_at-other i other version apart = ap (λ b. let slot : Slot = record { version = version; live = b } in slot) (ne_eqb other i apart)

-- what stands at a place already changes nothing there
pub set_itself : {X : Type 0} (xs : List X) (i : ℕ) (x : X) → slice_get xs i ≡ Some x → set xs i x ≡ xs
set_itself [] i x is = refl
set_itself (y ∷ xs) zero x is = let same : x ≡ y = cc in ap (λ z. z ∷ xs) same
set_itself (y ∷ xs) (suc i) x is = ap (λ rest. y ∷ rest) (set_itself xs i x is)

-- ---- the next index

pub next_at-set_same : (list : List Entity) (i : ℕ) (e : Entity) → i < length list → next_at (set list i e) i ≡ e.index
next_at-set_same list i e within = ap (λ o. option_map_or (λ (x : Entity). x.index) o 0) (slice_get-set_same list i e within)

pub next_at-set_other : (list : List Entity) (i j : ℕ) (e : Entity) → j ≢ i → next_at (set list i e) j ≡ next_at list j
next_at-set_other list i j e apart = ap (λ o. option_map_or (λ (x : Entity). x.index) o 0) (slice_get-set_other list i j e apart)

pub next_at-append : (list rest : List Entity) (j : ℕ) → j < length list → next_at (list ++ rest) j ≡ next_at list j
next_at-append list rest j within = ap (λ o. option_map_or (λ (x : Entity). x.index) o 0) (slice_get-append list rest j within)

-- ---- chains

pub length-chain : (n : ℕ) (list : List Entity) (index : ℕ) → length (chain n list index) ≤ n
length-chain zero list index = omega arith
length-chain (suc n) list index =
    let rest : length (chain n list (next_at list index)) ≤ n = length-chain n list (next_at list index) in
    elim (ltb index (length list)) as (λ b. length (cond b (index ∷ chain n list (next_at list index)) []) ≤ suc n) [ true ↦ omega arith | false ↦ omega arith ]

-- a chain is what is found by the walk along it
pub chain_is : (n : ℕ) (list : List Entity) (null index : ℕ) (free : List ℕ) → length free ≤ n → length list ≤ null → IsChain list null index free → chain n list index ≡ free
chain_is zero list null index [] short ended h = refl
chain_is (suc n) list null index [] short ended h =
    ap (λ b. cond b (index ∷ chain n list (next_at list index)) []) (le-ltb index (length list) (omega (arith, h)))
chain_is zero list null index (first ∷ rest) short ended h = absurd (omega arith)
chain_is (suc n) list null index (first ∷ rest) short ended h =
    let same : index ≡ first = h.0 in
    let within : first < length list = h.1 in
    ap (λ b. cond b (index ∷ chain n list (next_at list index)) []) (lt-ltb index (length list) (omega arith))
    ∙ ap (λ i. i ∷ chain n list (next_at list i)) same
    ∙ ap (λ tail. first ∷ tail) (chain_is n list null (next_at list first) rest (omega arith) ended h.2)

-- a chain stays where each of its indices keeps its next one
pub chain_kept : (old new : List Entity) (null index : ℕ) (free : List ℕ) → length old ≤ length new
    → ((i : ℕ) → 0 < times free i → i < length old → next_at new i ≡ next_at old i) → IsChain old null index free → IsChain new null index free
chain_kept old new null index [] longer same h = h
chain_kept old new null index (first ∷ rest) longer same h =
    let within : first < length old = h.1 in
    let here : bit (eqb first first) ≡ 1 = ap bit (eq-eqb first first refl) in (
      h.0,
      omega arith,
      subst (λ next. IsChain new null next rest) (sym (same first (omega (arith, count_cons first first rest)) within))
          (chain_kept old new null (next_at old first) rest longer (λ i stands. same i (omega (arith, count_cons i first rest))) h.2),
    )

-- an index that isn't in a chain, but has an identifier, is not the one that the chain is found from
pub start_apart : (list : List Entity) (null index : ℕ) (free : List ℕ) (i : ℕ) → length list ≤ null → IsChain list null index free → times free i ≡ 0 → i < length list → index ≢ i
start_apart list null index [] i ended h none within same = omega (arith, h)
start_apart list null index (first ∷ rest) i ended h none within same =
    let start : index ≡ first = h.0 in
    let one : bit (eqb first i) ≡ 1 = ap bit (eq-eqb first i (sym start ∙ same)) in
    omega (arith, count_cons i first rest)

-- a chain without one of its indices, where the one before it has the next one instead
pub linked : (old new : List Entity) (null index first second : ℕ) (before after : List ℕ) → length old ≡ length new
    → next_at new first ≡ next_at old second → ((i : ℕ) → i ≢ first → i ≢ second → next_at new i ≡ next_at old i)
    → times before first ≡ 0 → times before second ≡ 0 → times after first ≡ 0 → times after second ≡ 0
    → IsChain old null index (before ++ first ∷ second ∷ after) → IsChain new null index (before ++ first ∷ after)
linked old new null index first second [] after long link same bf bs af ax h =
    let within : first < length old = h.1 in
    let apart : (x : ℕ) → times after x ≡ 0 → (i : ℕ) → 0 < times after i → i ≢ x = λ x none i some is. (let one = ap (times after) is in omega arith) in (
      h.0,
      omega arith,
      subst (λ next. IsChain new null next after) (sym link)
          (chain_kept old new null (next_at old second) after (omega arith) (λ i some _. same i (apart first af i some) (apart second ax i some)) h.2.2),
    )
linked old new null index first second (x ∷ before) after long link same bf bs af ax h =
    let within : x < length old = h.1 in
    let not_first : x ≢ first = λ is. (let one : bit (eqb x first) ≡ 1 = ap bit (eq-eqb x first is) in omega (arith, count_cons first x before)) in
    let not_second : x ≢ second = λ is. (let one : bit (eqb x second) ≡ 1 = ap bit (eq-eqb x second is) in omega (arith, count_cons second x before)) in (
      h.0,
      omega arith,
      subst (λ next. IsChain new null next (before ++ first ∷ after)) (sym (same x not_first not_second))
          (linked old new null (next_at old x) first second before after long link same (omega (arith, count_cons first x before)) (omega (arith, count_cons second x before)) af ax h.2),
    )
