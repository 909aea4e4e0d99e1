-- What a list of identifiers shows once a free one in the middle of the chain, or at its top, was made live.
use Rattle.std.proofs.Common.{◌≡◌, ◌≢◌, ℕ, ◌<◌, ◌≤◌, cond, not, eqb, List, [], ◌∷◌, ◌++◌, set, get_or, length, length-set, Some, slice_get, refl, sym, ap, ap₂, subst, ◌∙◌, arith}
use Rattle.std.specs.Prelude.{filter}
use Rattle.std.specs.Option.{option_map, option_map_or}
use Rattle.std.proofs.lemmas.Bool.{eq-eqb, ne_eqb}
use Rattle.std.proofs.lemmas.Option.{slice_get_within, slice_get_read}
use Rattle.std.proofs.lemmas.List.Elements.{filter-append}
use Rattle.std.proofs.lemmas.List.Sums.{count_by-le-length, length-filter}
use Rattle.entity_id.specs.declared.entity.Entity.{Entity}
use Rattle.world_model.specs.declared.slot.Slot.{Slot}
use Rattle.world_model.specs.Slots.{live_slot}
use Rattle.world_model.proofs.SlotLemmas.{bit, count_cons}
use Rattle.entity_slots.specs.Threads.{AreListed, slot_at, slots_from, next_at, IsChain}
use Rattle.entity_slots.proofs.CountLemmas.{times}
use Rattle.entity_slots.proofs.ThreadLemmas.{slots_of-set, slot_found, slot_at-own, set_itself, next_at-set_same, next_at-set_other, start_apart, linked}
use Rattle.entity_slots.proofs.ShownLemmas.{Shows, once, times-append, one_itself, filter_none, popped, top_is}
use Rattle.entity_slots.proofs.WalkLemmas.{next_read}

-- the free list without an index
abbrev pub without : ℕ → List ℕ → List ℕ
without index free = filter (λ k. not (eqb k index)) free

-- two indices of a chain have identifiers
chain_within : (list : List Entity) (null index first second : ℕ) (before after : List ℕ) → IsChain list null index (before ++ first ∷ second ∷ after) → (first < length list) × (second < length list)
chain_within list null index first second [] after h = (h.1, h.2.1)
chain_within list null index first second (x ∷ before) after h = chain_within list null (next_at list x) first second before after h.2

-- the chain behind two of its indices
chain_rest : (list : List Entity) (null index first second : ℕ) (before after : List ℕ) → IsChain list null index (before ++ first ∷ second ∷ after)
    → (next_at list first ≡ second) × IsChain list null (next_at list second) after
chain_rest list null index first second [] after h = (h.2.0, h.2.2)
chain_rest list null index first second (x ∷ before) after h = chain_rest list null (next_at list x) first second before after h.2

without_both : (first second : ℕ) (after : List ℕ) → first ≢ second → times after second ≡ 0 → without second (first ∷ second ∷ after) ≡ first ∷ after
without_both first second after apart none =
    ap (λ b. cond (not b) (first ∷ without second (second ∷ after)) (without second (second ∷ after))) (ne_eqb first second apart)
    ∙ ap (λ b. first ∷ cond (not b) (second ∷ without second after) (without second after)) (eq-eqb second second refl)
    ∙ ap (λ rest. first ∷ rest) (filter_none after second none)

pub without_top : (index : ℕ) (free after : List ℕ) → free ≡ index ∷ after → times free index ≤ 1 → without index free ≡ after
without_top index free after parts most =
    let few : times (index ∷ after) index ≤ 1 = subst (λ (xs : List ℕ). times xs index ≤ 1) parts most in
    ap (without index) parts
    ∙ ap (λ b. cond (not b) (index ∷ without index after) (without index after)) (eq-eqb index index refl)
    ∙ filter_none after index (omega (arith, count_cons index index after, one_itself index))

module _ (list : List Entity) (null top : ℕ) (slots : List Slot) (free : List ℕ) (h : Shows list null top slots free) (listed : AreListed slots free) where
  -- at the top
  pub taken_top : (index version : ℕ) (after : List ℕ) → free ≡ index ∷ after
      → Shows (set list index (record { index = index; version = version })) null (next_at list index) (set slots index (live_slot version)) (without index free)
  taken_top index version after parts =
      subst (Shows (set list index (record { index = index; version = version })) null (next_at list index) (set slots index (live_slot version)))
      (sym (without_top index free after parts (once slots free index listed))) (popped list null top slots free h index after version parts listed)

  -- behind another one, which gets the next index
  pub taken_behind : (first second version : ℕ) (before after : List ℕ) (x : Entity) → free ≡ before ++ first ∷ second ∷ after → slice_get list first ≡ Some x
      → Shows (set (set list first (record { index = next_at list second; version = x.version })) second (record { index = second; version = version })) null top
      (set slots second (live_slot version)) (without second free)
  taken_behind first second version before after x parts here =
      let link : Entity = record { index = next_at list second; version = x.version } in
      let e : Entity = record { index = second; version = version } in
      let relinked : List Entity = set list first link in
      let now : List Entity = set relinked second e in
      let chained : IsChain list null top (before ++ first ∷ second ∷ after) = subst (IsChain list null top) parts h.chained in
      let within : first < length list = slice_get_within list first x here in
      let most_first : times (before ++ first ∷ second ∷ after) first ≤ 1 = subst (λ (xs : List ℕ). times xs first ≤ 1) parts (once slots free first listed) in
      let most_second : times (before ++ first ∷ second ∷ after) second ≤ 1 = subst (λ (xs : List ℕ). times xs second ≤ 1) parts (once slots free second listed) in
      let split_first = times-append before (first ∷ second ∷ after) first in
      let split_second = times-append before (first ∷ second ∷ after) second in
      let one_first = one_itself first in
      let one_second = one_itself second in
      let before_first : times before first ≡ 0 = omega (arith, count_cons first first (second ∷ after), count_cons first second after) in
      let after_first : times after first ≡ 0 = omega (arith, count_cons first first (second ∷ after), count_cons first second after) in
      let before_second : times before second ≡ 0 = omega (arith, count_cons second first (second ∷ after), count_cons second second after) in
      let after_second : times after second ≡ 0 = omega (arith, count_cons second first (second ∷ after), count_cons second second after) in
      let apart : first ≢ second = λ same. (
      let again : bit (eqb second first) ≡ 1 = ap bit (eq-eqb second first (sym same)) in
      omega (arith, count_cons first first (second ∷ after), count_cons first second after)) in
      let back : second ≢ first = λ same. apart (sym same) in
      let long : length now ≡ length list = length-set relinked second e ∙ length-set list first link in
      let rest = chain_rest list null top first second before after chained in
      let left : without second free ≡ before ++ first ∷ after =
      ap (without second) parts
      ∙ filter-append (λ k. not (eqb k second)) before (first ∷ second ∷ after)
      ∙ ap₂ (λ xs ys. xs ++ ys) (filter_none before second before_second) (without_both first second after apart after_second) in
      let next : next_at now first ≡ next_at list second = next_at-set_other relinked second first e apart ∙ next_at-set_same list first link within in
      let others : (i : ℕ) → i ≢ first → i ≢ second → next_at now i ≡ next_at list i =
      λ i not_first not_second. next_at-set_other relinked second i e not_second ∙ next_at-set_other list first i link not_first in
      let was_next : x.index ≡ second = sym (ap (λ o. option_map_or (λ (y : Entity). y.index) o 0) here) ∙ rest.0 in
      let ended = h.ended in
      let short = h.short in
      let free_still : next_at list second ≢ first = start_apart list null (next_at list second) after first ended rest.1 after_first within in
      let same_slot : slot_at first link ≡ slot_at first x =
      ap (λ b. let slot : Slot = record { version = x.version; live = b } in slot) (ne_eqb (next_at list second) first free_still ∙ sym (ap (λ i. eqb i first) was_next ∙ ne_eqb second first back)) in
      let unchanged : slots_from 0 relinked ≡ slots_from 0 list =
      slots_of-set list first link ∙ ap (set (slots_from 0 list) first) same_slot
      ∙ set_itself (slots_from 0 list) first (slot_at first x) (slot_found list first ∙ ap (option_map (slot_at first)) here) in
      record {
        slots = slots_of-set relinked second e ∙ ap₂ (λ xs slot. set xs second slot) (unchanged ∙ h.slots) (slot_at-own second version);
        chained = subst (IsChain now null top) (sym left)
            (linked list now null top first second before after (sym long) next others before_first before_second after_first after_second chained);
        ended = omega (arith, long);
        short = omega (arith, long, length-filter (λ k. not (eqb k second)) free, count_by-le-length (λ k. not (eqb k second)) free);
      }

  -- ---- with what the calls read of the identifiers

  pub taken_top_read : (entity read : Entity) (after : List ℕ) → free ≡ entity.index ∷ after → read ≡ get_or list entity.index read
      → Shows (set list entity.index entity) null read.index (set slots entity.index (live_slot entity.version)) (without entity.index free)
  taken_top_read entity read after parts is =
      let within : entity.index < length list = (top_is list null top slots free h entity.index after parts).1 in
      subst (λ (n : ℕ). Shows (set list entity.index entity) null n (set slots entity.index (live_slot entity.version)) (without entity.index free))
      (next_read list entity.index read within is) (taken_top entity.index entity.version after parts)

  pub within_behind : (first second : ℕ) (before after : List ℕ) → free ≡ before ++ first ∷ second ∷ after → (first < length list) × (second < length list)
  within_behind first second before after parts = chain_within list null top first second before after (subst (IsChain list null top) parts h.chained)

  pub taken_behind_read : (first : ℕ) (entity last read : Entity) (before after : List ℕ) → free ≡ before ++ first ∷ entity.index ∷ after
      → last ≡ get_or list first last → read ≡ get_or list entity.index read
      → Shows (set (set list first (record { index = read.index; version = last.version })) entity.index entity) null top (set slots entity.index (live_slot entity.version)) (without entity.index free)
  taken_behind_read first entity last read before after parts is_last is_read =
      let within = within_behind first entity.index before after parts in
      subst (λ (n : ℕ). Shows (set (set list first (record { index = n; version = last.version })) entity.index entity) null top (set slots entity.index (live_slot entity.version)) (without entity.index free))
      (next_read list entity.index read within.1 is_read)
      (taken_behind first entity.index entity.version before after last parts (slice_get_read list (length list) first last refl within.0 is_last))
