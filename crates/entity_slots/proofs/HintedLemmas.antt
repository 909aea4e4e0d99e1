-- What a hint makes of the slots and the free list.
use Rattle.std.proofs.Common.{◌≡◌, ℕ, zero, suc, ◌+◌, ◌<◌, ◌≤◌, true, false, cond, not, ◌||◌, ltb, List, [], ◌∷◌, ◌++◌, length, replicate, refl, sym, ap, subst, ◌∙◌, arith, add-zero}
use Rattle.std.specs.List.{range_with_len}
use Rattle.std.proofs.lemmas.Bool.{or_parts, not-false, ltb-true, lt-ltb, le-ltb}
use Rattle.entity_id.specs.declared.entity.Entity.{Entity}
use Rattle.world_model.specs.declared.slot.Slot.{Slot}
use Rattle.world_model.specs.Slots.{AreLawfulSlots, Creation, is_free_at, is_live_at, plain_creation, creation_as_hinted, creation_at_free_index, creation_past_end}
use Rattle.world_model.proofs.HintLemmas.{taken_slots}
use Rattle.entity_slots.specs.SlotLists.{SlotLists, lists_with_spare, AreLawful, is_plain, created_by}
use Rattle.entity_slots.proofs.CreationLemmas.{some_version}

-- ---- lists

-- one number more
pub range-more : (first n : ℕ) → range_with_len first (suc n) ≡ range_with_len first n ++ (first + n) ∷ []
range-more first zero = ap (λ k. k ∷ []) (sym (add-zero first))
range-more first (suc n) =
    let next : (first + 1) + n ≡ first + suc n = omega arith in
    ap (λ rest. first ∷ rest) (range-more (first + 1) n ∙ ap (λ k. range_with_len (first + 1) n ++ k ∷ []) next)

-- one item more
pub replicate-more : {X : Type 0} (n : ℕ) (x : X) → replicate (suc n) x ≡ replicate n x ++ x ∷ []
replicate-more zero x = refl
replicate-more (suc n) x = ap (λ rest. x ∷ rest) (replicate-more n x)

-- ---- a hint that is taken

-- a slot that isn't live is free
not_live_free : (slots : List Slot) (i : ℕ) → i < length slots → is_live_at slots i ≡ false → is_free_at slots i ≡ true
not_live_free [] i within dead = absurd (omega arith)
not_live_free (slot ∷ slots) zero within dead = ap not dead
not_live_free (slot ∷ slots) (suc i) within dead = not_live_free slots i (omega arith) dead

module _ (lists : SlotLists) (hint : Entity) (fresh : is_plain lists hint ≡ false) where
  taken : created_by lists hint ≡ creation_as_hinted lists.slots lists.free hint
  taken = ap (λ b. cond b (plain_creation lists.slots lists.free) (creation_as_hinted lists.slots lists.free hint)) fresh

  -- at a free index
  pub at_free_index : hint.index < length lists.slots → created_by lists hint ≡ creation_at_free_index lists.slots lists.free hint
  at_free_index within =
      taken ∙ ap (λ b. cond b (creation_at_free_index lists.slots lists.free hint) (creation_past_end lists.slots lists.free hint)) (lt-ltb hint.index (length lists.slots) within)

  -- past the end
  pub past_end : length lists.slots ≤ hint.index → created_by lists hint ≡ creation_past_end lists.slots lists.free hint
  past_end past =
      taken ∙ ap (λ b. cond b (creation_at_free_index lists.slots lists.free hint) (creation_past_end lists.slots lists.free hint)) (le-ltb hint.index (length lists.slots) past)

  -- its index and its version are below the limits
  pub low : (hint.index < lists.limit) × (hint.version < lists.profile.version_limit)
  low =
      let parts = or_parts (not (ltb hint.index lists.limit) || not (ltb hint.version lists.profile.version_limit)) (is_live_at lists.slots hint.index) fresh in
      let bounds = or_parts (not (ltb hint.index lists.limit)) (not (ltb hint.version lists.profile.version_limit)) parts.0 in
      (ltb-true _ _ (not-false _ bounds.0), ltb-true _ _ (not-false _ bounds.1))

  -- a slot at its index is free
  pub free_before : hint.index < length lists.slots → is_free_at lists.slots hint.index ≡ true
  free_before within =
      let parts = or_parts (not (ltb hint.index lists.limit) || not (ltb hint.version lists.profile.version_limit)) (is_live_at lists.slots hint.index) fresh in
      not_live_free lists.slots hint.index within parts.1

  -- what it makes is lawful
  lawful_by : AreLawful lists → AreLawfulSlots lists.profile lists.limit (created_by lists hint).slots (created_by lists hint).free
  lawful_by lawful =
      subst (λ (made : Creation). AreLawfulSlots lists.profile lists.limit made.slots made.free) (sym taken)
      (taken_slots lists.profile lists.limit lists.slots lists.free hint (some_version lists.profile lawful.profile) low.0 low.1 lawful.slots)

  -- and so are slots and a free list that are just that
  pub still_lawful : AreLawful lists → (slots : List Slot) (free : List ℕ) (spare : ℕ) → slots ≡ (created_by lists hint).slots → free ≡ (created_by lists hint).free
      → AreLawful (lists_with_spare lists.profile lists.limit slots free spare)
  still_lawful lawful slots free spare slots_are free_are = record {
    profile = lawful.profile;
    slots = subst (λ (xs : List Slot). AreLawfulSlots lists.profile lists.limit xs free) (sym slots_are)
        (subst (AreLawfulSlots lists.profile lists.limit (created_by lists hint).slots) (sym free_are) (lawful_by lawful));
  }
