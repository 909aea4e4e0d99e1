-- What a system is given to run on.
use Rattle.std.specs.Prelude.{◌≡◌, ℕ, ◌≤◌, List, ◌++◌, map, length, slice_get, IsTrue}
use Rattle.world_model.specs.declared.access.Access.{Access}
use Rattle.world_model.specs.Groups.{has_pool}
use Rattle.world_model.specs.Ticks.{Maps}
use Rattle.system_api.specs.Registers.{Register, Shows, numbers}

-- the pools that are lent for reading: those read, those looked at and those excluded, list after list. A pool that stands in two lists is
-- lent twice
abbrev pub read_pools : Access → List ℕ
read_pools access = access.read ++ access.look ++ access.without

-- the pools of a system's lists are lent, and no others, in the order of the lists
pub record AreLentFor (access : Access) (register : Register) : Type 0 where
  pub reads : numbers register.reads ≡ read_pools access
  pub writes : numbers register.writes ≡ access.write

-- how many rows each component has
abbrev pub sizes_of : Maps → List ℕ
sizes_of maps = map length maps

-- room for as many orders as a limit allows for maps that the lent pools show
pub record HasRoomFor (limit : List ℕ → ℕ) (register : Register) (spare : ℕ) : Type 0 where
  pub maps : Maps
  pub shown : Shows register maps
  pub enough : limit (sizes_of maps) ≤ spare

-- sizes that are the same for these components
abbrev pub AreSameSizesIn : List ℕ → List ℕ → List ℕ → Type 0
AreSameSizesIn pools a b = (pool : ℕ) → IsTrue (has_pool pools pool) → slice_get a pool ≡ slice_get b pool
