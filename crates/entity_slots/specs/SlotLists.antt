-- What a contract sees of the slots of a registry.
use Rattle.std.specs.Prelude.{◌≡◌, ℕ, Bool, List, IsTrue}
use Rattle.entity_id.specs.declared.entity.Entity.{Entity}
use Rattle.entity_id.specs.declared.entity.Profile.{Profile}
use Rattle.entity_id.specs.Identifiers.{is_profile}
use Rattle.world_model.specs.declared.slot.Slot.{Slot}
use Rattle.world_model.specs.Slots.{AreLawfulSlots, Creation, is_full, plain_creation, is_plain_hint, creation_by_hint}

-- slots and the indices that are free
pub record SlotLists : Type 0 where
  -- the profile of the identifiers
  pub profile : Profile
  -- the most slots
  pub limit : ℕ
  -- the slots, by index
  pub slots : List Slot
  -- the free indices, the next to be reused first
  pub free : List ℕ
  -- how many slots more there is memory for
  pub spare : ℕ

-- lists with memory for so many slots more
abbrev pub lists_with_spare : Profile → ℕ → List Slot → List ℕ → ℕ → SlotLists
lists_with_spare profile limit slots free spare = record { profile = profile; limit = limit; slots = slots; free = free; spare = spare }

-- lists with nothing to spare
abbrev pub slot_lists : Profile → ℕ → List Slot → List ℕ → SlotLists
slot_lists profile limit slots free = lists_with_spare profile limit slots free 0

-- the profile is one of the two, and the slots and the free list are lawful
pub record AreLawful (lists : SlotLists) : Type 0 where
  pub profile : IsTrue (is_profile lists.profile)
  pub slots : AreLawfulSlots lists.profile lists.limit lists.slots lists.free

-- the slots and the free list are these now, under the profile and the limit of before
pub record Becomes (old new : SlotLists) (list : List Slot) (indices : List ℕ) : Type 0 where
  pub profile : new.profile ≡ old.profile
  pub limit : new.limit ≡ old.limit
  pub slots : new.slots ≡ list
  pub free : new.free ≡ indices

-- whether the slots are as many as may be, and no index is free
abbrev pub are_full : SlotLists → Bool
are_full lists = is_full lists.limit lists.slots lists.free

-- what a plain creation makes of the lists
abbrev pub created : SlotLists → Creation
created lists = plain_creation lists.slots lists.free

-- whether a hint makes a plain creation
abbrev pub is_plain : SlotLists → Entity → Bool
is_plain lists hint = is_plain_hint lists.profile lists.limit lists.slots hint

-- what a hint makes of the lists
abbrev pub created_by : SlotLists → Entity → Creation
created_by lists hint = creation_by_hint lists.profile lists.limit lists.slots lists.free hint
