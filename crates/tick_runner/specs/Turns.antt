-- Turns at the pools of a system: what is lent by them, and what may be put back.
use Rattle.std.specs.Prelude.{◌≡◌, ℕ, ◌+◌, ◌<◌, ◌^◌, List, map, Option, Some, None, slice_get, slice_index_or}
use Rattle.entity_id.specs.declared.entity.Entity.{Entity}
use Rattle.world_model.specs.declared.component.Row.{Row}
use Rattle.system_api.specs.declared.lent.LentPool.{LentPool}
use Rattle.pool_slots.specs.Turns.{Turn, HasShapeOf, rows_of}
use Rattle.pool_slots.specs.declared.held.PoolTag.{PoolTag}
use Rattle.pool_slots.specs.Tags.{turns_at}

-- the turn that slots of these tags give at a pool, at the version that is needed
abbrev pub turn_found : {F : Type 0} → List (PoolTag F) → List ℕ → ℕ → Option (Turn F)
turn_found tags needs pool = slice_get (turns_at (slice_index_or needs pool 0) tags) pool

-- the turns that they give at pools of these numbers
abbrev pub found_at : {F : Type 0} → List (PoolTag F) → List ℕ → List ℕ → List (Option (Turn F))
found_at tags needs pools = map (turn_found tags needs) pools

-- a lent pool is the one of a turn, as the slots' fact admits it
pub record IsOfTurn {F : Type 0} (admits : F → ℕ → ℕ → List (Entity × Row) → Type 0) (turn : Turn F) (pool : LentPool) : Type 0 where
  pub number : pool.number ≡ turn.pool
  pub admitted : admits turn.fact turn.pool turn.version (rows_of pool.storage)
  pub shape : HasShapeOf turn.first pool.storage

-- the same of a turn that is there
abbrev pub IsOf : {F : Type 0} → (F → ℕ → ℕ → List (Entity × Row) → Type 0) → Option (Turn F) → LentPool → Type 0
IsOf admits None pool = ⊥
IsOf admits (Some turn) pool = IsOfTurn admits turn pool

-- a pool may be put back at the place of a turn
pub record MayComeBackTo {F : Type 0} (admits : F → ℕ → ℕ → List (Entity × Row) → Type 0) (turn : Turn F) (pool : LentPool) : Type 0 where
  pub room : turn.version + 1 < 2 ^ 32
  pub admitted : admits turn.fact turn.pool (turn.version + 1) (rows_of pool.storage)
  pub shape : HasShapeOf turn.first pool.storage

-- the same of a turn that is there
abbrev pub MayComeBack : {F : Type 0} → (F → ℕ → ℕ → List (Entity × Row) → Type 0) → Option (Turn F) → LentPool → Type 0
MayComeBack admits None pool = ⊥
MayComeBack admits (Some turn) pool = MayComeBackTo admits turn pool
