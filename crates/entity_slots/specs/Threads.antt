-- How the free slots are threaded through one list of identifiers. No public clause cites this file.
use Rattle.std.specs.Prelude.{◌≡◌, ℕ, zero, suc, ◌+◌, ◌^◌, ◌<◌, ◌≤◌, ◌==◌, nat_lt, if◌then◌else◌, List, [], ◌∷◌, ◌++◌, length, slice_get, count_by}
use Rattle.std.specs.Vec.{vec_capacity}
use Rattle.std.specs.Option.{option_map_or}
use Rattle.entity_id.specs.declared.entity.Entity.{Entity}
use Rattle.world_model.specs.declared.slot.Slot.{Slot}
use Rattle.world_model.specs.Slots.{is_free_at}
use Rattle.entity_slots.specs.declared.identifiers.Identifiers.TheInside.{Inside}

-- what the identifiers stand for: slots, the free indices from the top on, the null index, and for how many there is memory
pub record Threaded : Type 0 where
  pub slots : List Slot
  pub free : List ℕ
  pub null : ℕ
  pub room : ℕ

-- ---- the slots

-- what an identifier under an index says of its slot: live, where it has this very index
abbrev pub slot_at : ℕ → Entity → Slot
slot_at index entity = record { version = entity.version; live = entity.index == index }

-- the slots from an index on
abbrev pub slots_from : ℕ → List Entity → List Slot
slots_from first [] = []
slots_from first (entity ∷ rest) = slot_at first entity ∷ slots_from (first + 1) rest

-- ---- the free list

-- the index that stands in the identifier under an index
abbrev pub next_at : List Entity → ℕ → ℕ
next_at list index = option_map_or (λ entity. entity.index) (slice_get list index) 0

-- the free indices from one on, so many at most: after each comes its next one, up to one that has no identifier
abbrev pub chain : ℕ → List Entity → ℕ → List ℕ
chain zero list index = []
chain (suc n) list index = if nat_lt index (length list) then index ∷ chain n list (next_at list index) else []

-- from an index on these follow one another, each once there is an identifier under it, and after the last comes the null index
abbrev pub IsChain : List Entity → ℕ → ℕ → List ℕ → Type 0
IsChain list null index [] = index ≡ null
IsChain list null index (first ∷ rest) = (index ≡ first) × (first < length list) × IsChain list null (next_at list first) rest

-- ---- both

-- what the fields stand for
abbrev pub threaded_of : Inside → Threaded
threaded_of a = record {
  slots = slots_from 0 a.list.items;
  free = chain (length a.list.items) a.list.items a.top;
  null = a.null;
  room = vec_capacity a.list;
}

-- the free indices are a chain that ends in the null index, under which there is no identifier, and the null index fits 32 bits
pub record IsThreaded (a : Inside) : Type 0 where
  pub chained : IsChain a.list.items a.null a.top (chain (length a.list.items) a.list.items a.top)
  pub ended : length a.list.items ≤ a.null
  pub small : a.null < 2 ^ 32

-- each free slot's index is on the free list once, and nothing else is
abbrev pub AreListed : List Slot → List ℕ → Type 0
AreListed slots free = (index : ℕ) → count_by (λ other. other == index) free ≡ (if is_free_at slots index then 1 else 0)

-- the slots and the free list are these now, with the null index and the memory of before
pub record IsNow (old new : Threaded) (list : List Slot) (indices : List ℕ) : Type 0 where
  pub slots : new.slots ≡ list
  pub free : new.free ≡ indices
  pub null : new.null ≡ old.null
  pub room : new.room ≡ old.room

-- of two indices on a free list, the one right before the other
pub record IsRightBefore (free : List ℕ) (first second : ℕ) : Type 0 where
  pub before : List ℕ
  pub after : List ℕ
  pub parts : free ≡ before ++ first ∷ second ∷ after

-- an index is the first of a free list
pub record IsTop (free : List ℕ) (index : ℕ) : Type 0 where
  pub after : List ℕ
  pub parts : free ≡ index ∷ after
