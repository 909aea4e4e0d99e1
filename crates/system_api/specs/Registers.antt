-- What a contract sees of lent pools, and which maps they show.
use Rattle.std.specs.Prelude.{◌≡◌, ◌≢◌, ℕ, ◌≤◌, ◌==◌, List, [], ◌++◌, map, length, take, find, slice_get, slice_index_or, Option, Some, None, IsTrue, IfSome, IsPermutation}
use Rattle.std.specs.List.{AllByRecursion}
use Rattle.std.specs.Option.{unwrap_or}
use Rattle.entity_id.specs.FiniteMap as entries
use Rattle.world_model.specs.declared.access.Access.{Access}
use Rattle.world_model.specs.declared.component.Row.{Row}
use Rattle.world_model.specs.Frames.{own_pools, members}
use Rattle.world_model.specs.Groups.{has_pool}
use Rattle.world_model.specs.Ticks.{Maps}
use Rattle.system_api.specs.declared.lent.LentPool.{LentPool}

-- the pools that are lent for reading and those that are lent for writing, in the order in which they were lent; and, if one is set, a
-- prefix: a pool's number, and how many of its first identifiers a walk needs
pub record Register : Type 0 where
  pub reads : List LentPool
  pub writes : List LentPool
  pub prefix : Option (ℕ × ℕ)

-- nothing lent
abbrev pub no_pools : Register
no_pools = record { reads = []; writes = []; prefix = None }

-- a pool without rows and room
abbrev pub no_pool : LentPool
no_pool = record { number = 0; storage = record { pairs = []; spare = 0; index_bound = 0 } }

-- the numbers of pools
abbrev pub numbers : List LentPool → List ℕ
numbers pools = map (λ (pool : LentPool). pool.number) pools

-- the pool at a place of a list, counted from 0
abbrev pub pool_at : List LentPool → ℕ → LentPool
pool_at pools place = slice_index_or pools place no_pool

-- the pool of a number, if it is lent
abbrev pub pool_of : Register → ℕ → LentPool
pool_of register number = unwrap_or (find (λ (pool : LentPool). pool.number == number) (register.writes ++ register.reads)) no_pool

-- the rows of a pool, in packed order
abbrev pub rows_of : LentPool → List Row
rows_of pool = map (λ pair. pair.1) pool.storage.pairs

-- ---- which maps are shown

-- a pool has the rows of its component, in whatever order
abbrev pub StandsFor : Maps → LentPool → Type 0
StandsFor maps pool = slice_get maps pool.number ≡ Some (entries.map_of pool.storage.pairs)

-- maps of which each lent pool has the rows of its component
pub record Shows (register : Register) (maps : Maps) : Type 0 where
  pub reads : AllByRecursion (StandsFor maps) register.reads
  pub writes : AllByRecursion (StandsFor maps) register.writes

-- ---- the prefix

-- a pool of a system's own whose first so many identifiers are the system's entities, each once, in whatever order
pub record HasMembersFirst (access : Access) (maps : Maps) (register : Register) (pool count : ℕ) : Type 0 where
  pub own : IsTrue (has_pool (own_pools access) pool)
  pub within : count ≤ length (pool_of register pool).storage.pairs
  pub first : IsPermutation (take count (entries.keys (pool_of register pool).storage.pairs)) (members access maps)

-- where a register has a prefix, its identifiers are the system's entities
abbrev pub MayWalkPrefix : Access → Maps → Register → Type 0
MayWalkPrefix access maps register = IfSome register.prefix (λ prefix. HasMembersFirst access maps register prefix.0 prefix.1)

-- ---- what may change

-- a pool with other rows: its identifiers stay in their places, and so do its number and its room
pub record HasOtherRows (old new : LentPool) : Type 0 where
  pub number : new.number ≡ old.number
  pub identifiers : entries.keys new.storage.pairs ≡ entries.keys old.storage.pairs
  pub spare : new.storage.spare ≡ old.storage.spare
  pub bound : new.storage.index_bound ≡ old.storage.index_bound

-- nothing but rows of written pools changes
pub record ChangesRows (old new : Register) : Type 0 where
  pub reads : new.reads ≡ old.reads
  pub prefix : new.prefix ≡ old.prefix
  pub numbers : numbers new.writes ≡ numbers old.writes
  pub rows : (place : ℕ) → HasOtherRows (pool_at old.writes place) (pool_at new.writes place)

-- nothing but rows of the written pool at a place changes
pub record ChangesRowsAt (at : ℕ) (old new : Register) : Type 0 where
  pub rows : ChangesRows old new
  pub others : (place : ℕ) → place ≢ at → pool_at new.writes place ≡ pool_at old.writes place
