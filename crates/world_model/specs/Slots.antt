-- The slots of a world and its free list.
use Rattle.std.specs.Prelude.{◌≡◌, ℕ, ◌-◌, ◌<◌, ◌≤◌, Bool, true, false, not, ◌&&◌, ◌||◌, ◌==◌, nat_lt, if◌then◌else◌, List, [], ◌∷◌, ◌++◌, length, filter, reverse, replicate, slice_get, slice_set, count_by}
use Rattle.std.specs.List.{AllByRecursion, range_with_len}
use Rattle.std.specs.Option.{option_map_or}
use Rattle.entity_id.specs.declared.entity.Entity.{Entity}
use Rattle.entity_id.specs.declared.entity.Profile.{Profile}
use Rattle.entity_id.specs.Identifiers.{next_version}
use Rattle.world_model.specs.declared.slot.Slot.{Slot}

-- whether an identifier is live: its index has a live slot, with its version
abbrev pub is_live : List Slot → Entity → Bool
is_live slots entity = option_map_or (λ slot. slot.live && (slot.version == entity.version)) (slice_get slots entity.index) false

-- whether there is a live slot with this index
abbrev pub is_live_at : List Slot → ℕ → Bool
is_live_at slots index = option_map_or (λ slot. slot.live) (slice_get slots index) false

-- whether there is a free slot with this index
abbrev pub is_free_at : List Slot → ℕ → Bool
is_free_at slots index = option_map_or (λ slot. not slot.live) (slice_get slots index) false

-- lawful slots and free list: at most so many slots, whose indices are below the index limit, every version below the version
-- limit, and each free slot's index stands on the list once, and nothing else does
pub record AreLawfulSlots (profile : Profile) (limit : ℕ) (slots : List Slot) (free : List ℕ) : Type 0 where
  pub few : length slots ≤ limit
  pub addressable : limit ≤ profile.index_limit
  pub versions : AllByRecursion (λ slot. slot.version < profile.version_limit) slots
  pub listed : (index : ℕ) → count_by (λ other. other == index) free ≡ (if is_free_at slots index then 1 else 0)

-- ---- identifiers made and destroyed

-- the version that a slot keeps, and 0 past the end
abbrev pub version_at : List Slot → ℕ → ℕ
version_at slots index = option_map_or (λ slot. slot.version) (slice_get slots index) 0

-- a slot that an entity has
abbrev pub live_slot : ℕ → Slot
live_slot version = record { version = version; live = true }

-- a slot that no entity has, with the version that its next owner gets
abbrev pub free_slot : ℕ → Slot
free_slot version = record { version = version; live = false }

-- an identifier that was made, and the slots and the free list after that
pub record Creation : Type 0 where
  pub entity : Entity
  pub slots : List Slot
  pub free : List ℕ

-- whether no identifier can be made: no index is free, and the slots are as many as may be
abbrev pub is_full : ℕ → List Slot → List ℕ → Bool
is_full limit slots [] = not (nat_lt (length slots) limit)
is_full limit slots (index ∷ free) = false

-- a plain creation: the index on top of the free list with the version that its slot keeps, or else a new slot with version 0
abbrev pub plain_creation : List Slot → List ℕ → Creation
plain_creation slots [] = record { entity = record { index = length slots; version = 0 }; slots = slots ++ live_slot 0 ∷ []; free = [] }
plain_creation slots (index ∷ free) =
    let version = version_at slots index in
    record { entity = record { index = index; version = version }; slots = slice_set slots index (live_slot version); free = free }

-- whether a hint makes a plain creation: its index is at least the slot limit, its version at least the version limit, or its index
-- is live
abbrev pub is_plain_hint : Profile → ℕ → List Slot → Entity → Bool
is_plain_hint profile limit slots hint =
    not (nat_lt hint.index limit) || not (nat_lt hint.version profile.version_limit) || is_live_at slots hint.index

-- a hint at a free index: the index leaves the free list, whose other entries keep their order
abbrev pub creation_at_free_index : List Slot → List ℕ → Entity → Creation
creation_at_free_index slots free hint = record {
  entity = hint;
  slots = slice_set slots hint.index (live_slot hint.version);
  free = filter (λ index. not (index == hint.index)) free;
}

-- a hint past the end: the indices before it become free, one after another, each in turn the top of the free list
abbrev pub creation_past_end : List Slot → List ℕ → Entity → Creation
creation_past_end slots free hint =
    let gap = hint.index - length slots in
    record {
      entity = hint;
      slots = slots ++ replicate gap (free_slot 0) ++ live_slot hint.version ∷ [];
      free = reverse (range_with_len (length slots) gap) ++ free;
    }

-- a hint that is taken: the identifier itself is made
abbrev pub creation_as_hinted : List Slot → List ℕ → Entity → Creation
creation_as_hinted slots free hint =
    if nat_lt hint.index (length slots) then creation_at_free_index slots free hint else creation_past_end slots free hint

-- what a hint makes
abbrev pub creation_by_hint : Profile → ℕ → List Slot → List ℕ → Entity → Creation
creation_by_hint profile limit slots free hint =
    if is_plain_hint profile limit slots hint then plain_creation slots free else creation_as_hinted slots free hint

-- the slots once an identifier is destroyed: its slot is free, with the next version. Its index becomes the top of the free list
abbrev pub slots_after_destroy : Profile → List Slot → Entity → List Slot
slots_after_destroy profile slots entity = slice_set slots entity.index (free_slot (next_version profile entity.version))
