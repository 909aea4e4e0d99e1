-- How a register keeps lent pools. No public clause cites this file.
use Rattle.std.specs.Prelude.{◌≤◌, ℕ, List, map, Option, Some, None, IsTrue, is_some, All}
use Rattle.std.specs.Vec.{vec_capacity}
use Rattle.std.specs.Global.{Vec}
use Rattle.world_model.specs.Frames.{pool_limit}
use Rattle.system_api.specs.declared.lent.LentPool.{LentPool}
use Rattle.system_api.specs.declared.lent.ReadPool.{ReadPool}
use Rattle.system_api.specs.Registers.{Register, no_pool}

-- the pool at a place of those lent for reading
abbrev pub read_of : Option ReadPool → LentPool
read_of None = no_pool
read_of (Some read) = record { number = read.number; storage = read.storage.now }

-- what a contract sees of pools and of a prefix
abbrev pub register_of : List (Option ReadPool) → List LentPool → Option (ℕ × ℕ) → Register
register_of reads writes prefix = record { reads = map read_of reads; writes = writes; prefix = prefix }

-- each place for reading has a pool, and there is room for as many written pools as a system names at most
pub record IsHeld (reads : List (Option ReadPool)) (writes : Vec LentPool) : Type 0 where
  pub there : All (λ read. IsTrue (is_some read)) reads
  pub room : pool_limit ≤ vec_capacity writes
