-- What a list of identifiers with a top shows, and shows after each change: slots and a free list.
use Rattle.std.proofs.Common.{◌≡◌, ◌≢◌, ℕ, ◌+◌, ◌^◌, ◌<◌, ◌≤◌, true, false, cond, not, ◌&&◌, eqb, List, [], ◌∷◌, ◌++◌, set, get_or, length, length-set, length-append, Some, None, slice_get, refl, sym, ap, ap₂, subst, ◌∙◌, inl, inr, arith}
use Rattle.std.specs.Prelude.{filter}
use Rattle.std.specs.Vec.{vec_capacity}
use Rattle.std.specs.Option.{option_map, option_map_or}
use Rattle.std.proofs.lemmas.Bool.{cases_eq, eq-eqb, ne_eqb}
use Rattle.std.proofs.lemmas.Option.{slice_get_read}
use Rattle.std.proofs.lemmas.List.Sums.{sum_by-append}
use Rattle.entity_id.specs.declared.entity.Entity.{Entity}
use Rattle.world_model.specs.declared.slot.Slot.{Slot}
use Rattle.entity_id.specs.Identifiers.{is_same}
use Rattle.world_model.specs.Slots.{free_slot, live_slot, is_free_at, is_live, is_live_at, version_at}
use Rattle.world_model.proofs.SlotLemmas.{bit, count_cons, not_both, live_within, slice_get-push}
use Rattle.entity_slots.specs.declared.identifiers.Identifiers.TheInside.{Inside}
use Rattle.entity_slots.specs.Threads.{Threaded, threaded_of, IsThreaded, AreListed, IsNow, slot_at, slots_from, next_at, chain, IsChain}
use Rattle.entity_slots.proofs.CountLemmas.{times, free_count, length_free, fewer_free}
use Rattle.entity_slots.proofs.ThreadLemmas.{slots_of-set, slots_of-push, length-slots_from, slot_found, slot_at-own, slot_at-other, next_at-set_same, next_at-set_other, next_at-append, length-chain, chain_is, chain_kept, start_apart}

-- the list, from the top on and up to the null index, is these slots and this free list
pub record Shows (list : List Entity) (null top : ℕ) (these : List Slot) (indices : List ℕ) : Type 0 where
  pub slots : slots_from 0 list ≡ these
  pub chained : IsChain list null top indices
  pub ended : length list ≤ null
  pub short : length indices ≤ length list

-- ---- between the fields and what they stand for

pub shown : (a : Inside) (value : Threaded) → IsThreaded a → threaded_of a ≡ value → Shows a.list.items a.null a.top value.slots value.free
shown a value h is =
    subst (λ (v : Threaded). Shows a.list.items a.null a.top v.slots v.free) is (record {
      slots = refl;
      chained = h.chained;
      ended = h.ended;
      short = length-chain (length a.list.items) a.list.items a.top;
    })

pub found : (list : List Entity) (null top : ℕ) (slots : List Slot) (free : List ℕ) → Shows list null top slots free → chain (length list) list top ≡ free
found list null top slots free h = chain_is (length list) list null top free h.short h.ended h.chained

-- fields that show slots and a free list are threaded
pub threaded : (a : Inside) (slots : List Slot) (free : List ℕ) → a.null < 2 ^ 32 → Shows a.list.items a.null a.top slots free → IsThreaded a
threaded a slots free small h = record {
  chained = subst (IsChain a.list.items a.null a.top) (sym (found a.list.items a.null a.top slots free h)) h.chained;
  ended = h.ended;
  small = small;
}

-- and stand for them now
pub shown_now : (old new : Inside) (value : Threaded) (slots : List Slot) (free : List ℕ) → threaded_of old ≡ value → new.null ≡ old.null → vec_capacity new.list ≡ vec_capacity old.list
    → Shows new.list.items new.null new.top slots free → IsNow value (threaded_of new) slots free
shown_now old new value slots free is null room h = record {
  slots = h.slots;
  free = found new.list.items new.null new.top slots free h;
  null = null ∙ ap (λ (v : Threaded). v.null) is;
  room = room ∙ ap (λ (v : Threaded). v.room) is;
}

-- ---- what is not on the free list

pub as_long : (list : List Entity) (null top : ℕ) (slots : List Slot) (free : List ℕ) → Shows list null top slots free → length slots ≡ length list
as_long list null top slots free h = sym (ap length h.slots) ∙ length-slots_from 0 list

unlisted : (slots : List Slot) (free : List ℕ) (index : ℕ) → AreListed slots free → is_live_at slots index ≡ true → times free index ≡ 0
unlisted slots free index listed live = listed index ∙ ap bit (not_both slots index live)

-- an index stands there once at most
pub once : (slots : List Slot) (free : List ℕ) (index : ℕ) → AreListed slots free → times free index ≤ 1
once slots free index listed =
    let one : bit (is_free_at slots index) ≤ 1 = elim (is_free_at slots index) as (λ b. bit b ≤ 1) [ true ↦ omega arith | false ↦ omega arith ] in
    omega (arith, listed index)

pub times-append : (xs ys : List ℕ) (index : ℕ) → times (xs ++ ys) index ≡ times xs index + times ys index
times-append xs ys index = sum_by-append (λ k. cond (eqb k index) 1 0) xs ys

pub one_itself : (index : ℕ) → bit (eqb index index) ≡ 1
one_itself index = ap bit (eq-eqb index index refl)

-- a list on which an index isn't stays without it
pub filter_none : (free : List ℕ) (index : ℕ) → times free index ≡ 0 → filter (λ k. not (eqb k index)) free ≡ free
filter_none [] index none = refl
filter_none (first ∷ rest) index none =
    elim (cases_eq first index) [
      | inl same ↦ let one : bit (eqb first index) ≡ 1 = ap bit (eq-eqb first index same) in absurd (omega (arith, count_cons index first rest))
      | inr apart ↦
          ap (λ b. cond (not b) (first ∷ filter (λ k. not (eqb k index)) rest) (filter (λ k. not (eqb k index)) rest)) (ne_eqb first index apart)
          ∙ ap (λ tail. first ∷ tail) (filter_none rest index (omega (arith, count_cons index first rest)))
    ]

-- ---- the changes

module _ (list : List Entity) (null top : ℕ) (slots : List Slot) (free : List ℕ) (h : Shows list null top slots free) where
  long : length slots ≡ length list
  long = as_long list null top slots free h

  pub appended : (version : ℕ) → length list < null
      → Shows (list ++ record { index = length list; version = version } ∷ []) null top (slots ++ live_slot version ∷ []) free
  appended version few =
      let e : Entity = record { index = length list; version = version } in
      let ended = h.ended in let short = h.short in
      record {
        slots = slots_of-push list e ∙ ap₂ (λ xs slot. xs ++ slot ∷ []) h.slots (slot_at-own (length list) version);
        chained = chain_kept list (list ++ e ∷ []) null top free (omega (arith, length-append list (e ∷ []))) (λ i _ within. next_at-append list (e ∷ []) i within) h.chained;
        ended = omega (arith, length-append list (e ∷ []));
        short = omega (arith, length-append list (e ∷ []));
      }

  -- the top is no index past the last, but for the null index
  top_is_old : length list < null → top ≢ length list
  top_is_old few = top_of free h.chained
    where
      top_of : (indices : List ℕ) → IsChain list null top indices → top ≢ length list
      top_of [] chained same = omega (arith, chained)
      top_of (first ∷ rest) chained same = let within = chained.1 in let start = chained.0 in omega arith

  pub appended_free : length list < null
      → Shows (list ++ record { index = top; version = 0 } ∷ []) null (length list) (slots ++ free_slot 0 ∷ []) (length slots ∷ free)
  appended_free few =
      let e : Entity = record { index = top; version = 0 } in
      let ended = h.ended in let short = h.short in
      let next : next_at (list ++ e ∷ []) (length list) ≡ top = ap (λ o. option_map_or (λ (x : Entity). x.index) o 0) (slice_get-push list e) in
      let rest : IsChain (list ++ e ∷ []) null top free =
      chain_kept list (list ++ e ∷ []) null top free (omega (arith, length-append list (e ∷ []))) (λ i _ within. next_at-append list (e ∷ []) i within) h.chained in
      let within : length list < length (list ++ e ∷ []) = omega (arith, length-append list (e ∷ [])) in
      subst (λ n. Shows (list ++ e ∷ []) null (length list) (slots ++ free_slot 0 ∷ []) (n ∷ free)) (sym long) (record {
        slots = slots_of-push list e ∙ ap₂ (λ xs slot. xs ++ slot ∷ []) h.slots (slot_at-other (length list) top 0 (top_is_old few));
        chained = (refl, within, subst (λ n. IsChain (list ++ e ∷ []) null n free) (sym next) rest);
        ended = omega (arith, length-append list (e ∷ []));
        short = omega (arith, length-append list (e ∷ []));
      })

  -- as a call has them, with the index in a variable
  pub appended_as : (now : List Entity) (index version : ℕ) → now ≡ list ++ record { index = index; version = version } ∷ [] → index ≡ length list → length list < null
      → Shows now null top (slots ++ live_slot version ∷ []) free
  appended_as now index version is last few =
      subst (λ (xs : List Entity). Shows xs null top (slots ++ live_slot version ∷ []) free)
      (ap (λ (i : ℕ). let e : Entity = record { index = i; version = version } in list ++ e ∷ []) (sym last) ∙ sym is) (appended version few)

  pub appended_free_as : (now : List Entity) (index : ℕ) → now ≡ list ++ record { index = top; version = 0 } ∷ [] → index ≡ length list → length list < null
      → Shows now null index (slots ++ free_slot 0 ∷ []) (length slots ∷ free)
  appended_free_as now index is last few =
      subst (λ (i : ℕ). Shows now null i (slots ++ free_slot 0 ∷ []) (length slots ∷ free)) (sym last)
      (subst (λ (xs : List Entity). Shows xs null (length list) (slots ++ free_slot 0 ∷ []) (length slots ∷ free)) (sym is) (appended_free few))

  pub released : (index version : ℕ) → is_live_at slots index ≡ true → AreListed slots free
      → Shows (set list index (record { index = top; version = version })) null index (set slots index (free_slot version)) (index ∷ free)
  released index version live listed =
      let e : Entity = record { index = top; version = version } in
      let none : times free index ≡ 0 = unlisted slots free index listed live in
      let within : index < length list = let low : index < length slots = live_within slots index live in omega (arith, long) in
      let fewer : length free < length list =
      let as_many : length free ≡ free_count slots = length_free slots free listed in
      let less : free_count slots < length slots = fewer_free slots index live in
      omega (arith, long) in
      let ended = h.ended in
      let rest : IsChain (set list index e) null top free =
      chain_kept list (set list index e) null top free (omega (arith, length-set list index e))
      (λ i some _. next_at-set_other list index i e (λ same. let zero_times = ap (times free) same in omega arith)) h.chained in
      record {
        slots = slots_of-set list index e ∙ ap₂ (λ xs slot. set xs index slot) h.slots (slot_at-other index top version (start_apart list null top free index ended h.chained none within));
        chained = (refl, omega (arith, length-set list index e), subst (λ n. IsChain (set list index e) null n free) (sym (next_at-set_same list index e within)) rest);
        ended = omega (arith, length-set list index e);
        short = omega (arith, length-set list index e);
      }

  -- the first of the free ones made live
  pub popped : (first : ℕ) (rest : List ℕ) (version : ℕ) → free ≡ first ∷ rest → AreListed slots free
      → Shows (set list first (record { index = first; version = version })) null (next_at list first) (set slots first (live_slot version)) rest
  popped first rest version parts listed =
      let e : Entity = record { index = first; version = version } in
      let chained : IsChain list null top (first ∷ rest) = subst (IsChain list null top) parts h.chained in
      let none : times rest first ≡ 0 =
      let most : times (first ∷ rest) first ≤ 1 = subst (λ (xs : List ℕ). times xs first ≤ 1) parts (once slots free first listed) in
      omega (arith, count_cons first first rest, one_itself first) in
      let ended = h.ended in
      let short : length (first ∷ rest) ≤ length list = subst (λ (xs : List ℕ). length xs ≤ length list) parts h.short in
      record {
        slots = slots_of-set list first e ∙ ap₂ (λ xs slot. set xs first slot) h.slots (slot_at-own first version);
        chained = chain_kept list (set list first e) null (next_at list first) rest (omega (arith, length-set list first e))
            (λ i some _. next_at-set_other list first i e (λ same. let zero_times = ap (times rest) same in omega arith)) chained.2;
        ended = omega (arith, length-set list first e);
        short = omega (arith, length-set list first e);
      }

  -- the first of the free ones is the top
  pub top_is : (first : ℕ) (rest : List ℕ) → free ≡ first ∷ rest → (top ≡ first) × (first < length list)
  top_is first rest parts = let chained : IsChain list null top (first ∷ rest) = subst (IsChain list null top) parts h.chained in (chained.0, chained.1)

  -- where the top is the null index no index is free
  pub none_at_null : (indices : List ℕ) → free ≡ indices → top ≡ null → free ≡ []
  none_at_null [] parts ends = parts
  none_at_null (first ∷ rest) parts ends =
      let start = top_is first rest parts in
      let ended = h.ended in absurd (omega (arith, start.0, start.1))

  pub null_at_none : free ≡ [] → top ≡ null
  null_at_none none = subst (IsChain list null top) none h.chained

  -- and else the top is the first of them
  pub some_at_top : (indices : List ℕ) → free ≡ indices → top ≢ null → (rest : List ℕ) × (free ≡ top ∷ rest)
  some_at_top [] parts some = absurd (some (null_at_none parts))
  some_at_top (first ∷ rest) parts some = (rest, parts ∙ ap (λ i. i ∷ rest) (sym (top_is first rest parts).0))

-- the top made live, with the version that is kept for it
pub record IsReused (list : List Entity) (null top : ℕ) (these : List Slot) (indices : List ℕ) (e : Entity) : Type 0 where
  pub rest : List ℕ
  pub parts : indices ≡ top ∷ rest
  pub version : e.version ≡ version_at these top
  pub shows : Shows (set list top (record { index = top; version = e.version })) null e.index (set these top (live_slot e.version)) rest

pub reused : (list : List Entity) (null top : ℕ) (slots : List Slot) (free : List ℕ) → Shows list null top slots free → AreListed slots free → top ≢ null → (e : Entity) → e ≡ get_or list top e
    → IsReused list null top slots free e
reused list null top slots free h listed some e is =
    let parts = some_at_top list null top slots free h free refl some in
    let within : top < length list = (top_is list null top slots free h top parts.0 parts.1).1 in
    let here : slice_get list top ≡ Some e = slice_get_read list (length list) top e refl within is in
    let next : next_at list top ≡ e.index = ap (λ o. option_map_or (λ (x : Entity). x.index) o 0) here in
    let kept : version_at slots top ≡ e.version =
    ap (λ (xs : List Slot). version_at xs top) (sym h.slots) ∙ ap (λ o. option_map_or (λ (slot : Slot). slot.version) o 0) (slot_found list top ∙ ap (option_map (slot_at top)) here) in
    record {
      rest = parts.0;
      parts = parts.1;
      version = sym kept;
      shows = subst (λ (n : ℕ). Shows (set list top (record { index = top; version = e.version })) null n (set slots top (live_slot e.version)) parts.0) next
          (popped list null top slots free h top parts.0 e.version parts.1 listed);
    }

-- ---- what is asked

pub length_shown : (a : Inside) (value : Threaded) → threaded_of a ≡ value → length value.slots ≡ length a.list.items
length_shown a value is = sym (ap (λ (v : Threaded). length v.slots) is) ∙ length-slots_from 0 a.list.items

pub slot_shown : (a : Inside) (value : Threaded) → threaded_of a ≡ value → (i : ℕ) → slice_get value.slots i ≡ option_map (slot_at i) (slice_get a.list.items i)
slot_shown a value is i = sym (ap (λ (v : Threaded). slice_get v.slots i) is) ∙ slot_found a.list.items i

-- an identifier is live where it stands under its own index
pub live_shown : (a : Inside) (value : Threaded) → threaded_of a ≡ value → (e : Entity)
    → is_live value.slots e ≡ option_map_or (λ (it : Entity). is_same it e) (slice_get a.list.items e.index) false
live_shown a value is e =
    ap (λ o. option_map_or (λ (slot : Slot). slot.live && eqb slot.version e.version) o false) (slot_shown a value is e.index)
    ∙ elim (slice_get a.list.items e.index) as (λ o. option_map_or (λ (slot : Slot). slot.live && eqb slot.version e.version) (option_map (slot_at e.index) o) false ≡ option_map_or (λ (it : Entity). is_same it e) o false) [
      | None ↦ refl
      | Some it ↦ refl
    ]

pub live_at_shown : (a : Inside) (value : Threaded) → threaded_of a ≡ value → (i : ℕ)
    → is_live_at value.slots i ≡ option_map_or (λ (it : Entity). eqb it.index i) (slice_get a.list.items i) false
live_at_shown a value is i =
    ap (λ o. option_map_or (λ (slot : Slot). slot.live) o false) (slot_shown a value is i)
    ∙ elim (slice_get a.list.items i) as (λ o. option_map_or (λ (slot : Slot). slot.live) (option_map (slot_at i) o) false ≡ option_map_or (λ (it : Entity). eqb it.index i) o false) [
      | None ↦ refl
      | Some it ↦ refl
    ]

pub version_shown : (a : Inside) (value : Threaded) → threaded_of a ≡ value → (i : ℕ) (e : Entity) → slice_get a.list.items i ≡ Some e → version_at value.slots i ≡ e.version
version_shown a value is i e here =
    ap (λ o. option_map_or (λ (slot : Slot). slot.version) o 0) (slot_shown a value is i ∙ ap (option_map (slot_at i)) here)
