-- What a contract sees of slots: the list of their tags. A slot's tag is fixed when the slot is made.
use Rattle.std.specs.Prelude.{◌≡◌, ℕ, List, map, Some, slice_get}
use Rattle.entity_id.specs.declared.entity.Entity.{Entity}
use Rattle.storage.specs.Stored.{Stored}
use Rattle.world_model.specs.declared.component.Row.{Row}
use Rattle.pool_slots.specs.declared.held.PoolTag.{PoolTag}
use Rattle.pool_slots.specs.Turns.{HasShapeOf, PoolSlots, Turn, rows_of}

-- ---- one slot

-- the tag has the fact, the pool's number and the pool as it was handed in
pub record IsTagOf {F : Type 0} (fact : F) (pool : ℕ) (first : Stored Row) (tag : PoolTag F) : Type 0 where
  pub fact_is : tag.fact.value ≡ fact
  pub pool_is : tag.pool ≡ pool
  pub first_is : tag.first.value ≡ first

-- a turn at the slot with this tag, at a version
abbrev pub turn_of : {F : Type 0} → PoolTag F → ℕ → Turn F
turn_of tag version = record { fact = tag.fact.value; pool = tag.pool; version = version; first = tag.first.value }

-- ---- the slots

-- the turns at slots with these tags, at a version
abbrev pub turns_at : {F : Type 0} → ℕ → List (PoolTag F) → List (Turn F)
turns_at version tags = map (λ tag. turn_of tag version) tags

-- the pools as they were handed in
abbrev pub firsts_of : {F : Type 0} → List (PoolTag F) → List (Stored Row)
firsts_of tags = map (λ tag. tag.first.value) tags

-- slots of a fact, by their tags
abbrev pub slots_of : {F : Type 0} → F → List (PoolTag F) → PoolSlots F
slots_of fact tags = record { fact = fact; firsts = firsts_of tags }

-- each tag has the number of its place
abbrev pub AreNumbered : {F : Type 0} → List (PoolTag F) → Type 0
AreNumbered {F} tags = (pool : ℕ) (tag : PoolTag F) → slice_get tags pool ≡ Some tag → tag.pool ≡ pool

-- each tag has this fact and the number of its place
abbrev pub AreSlots : {F : Type 0} → F → List (PoolTag F) → Type 0
AreSlots {F} fact tags = (pool : ℕ) (tag : PoolTag F) → slice_get tags pool ≡ Some tag → (tag.fact.value ≡ fact) × (tag.pool ≡ pool)

-- one slot for each of these pools, in the same order, all with this fact
pub record AreFilled {F : Type 0} (fact : F) (pools : List (Stored Row)) (tags : List (PoolTag F)) : Type 0 where
  pub slots : AreSlots fact tags
  pub firsts : firsts_of tags ≡ pools

-- ---- what comes out of a slot

-- the pool is admitted in the slot of this number at some version, and has the shape with which it was handed in
pub record IsAdmitted {F : Type 0} (admits : F → ℕ → ℕ → List (Entity × Row) → Type 0) (tags : List (PoolTag F)) (pool : ℕ) (stored : Stored Row) : Type 0 where
  pub turn : Turn F
  pub at : slice_get (turns_at turn.version tags) pool ≡ Some turn
  pub admitted : admits turn.fact turn.pool turn.version (rows_of stored)
  pub shape : HasShapeOf turn.first stored
