-- How a core lays out its state. No public clause cites this module.
use Rattle.std.specs.Prelude.{ℕ, Bool, false, List, map, filter, unwrap_or}
use Rattle.std.specs.FinMap as entries
use Rattle.std.specs.FinSet as set
use Rattle.tick_core.specs.declared.progress.Progress.{Progress}
use Rattle.tick_core.specs.declared.turns.Turn.{Turn}
use Rattle.tick_core.specs.declared.versions.PoolVersion.{PoolVersion}
use Rattle.tick_core.specs.States.{PoolSet, SystemState, Versions}

-- ---- turns

-- the turn at a pool that was neither taken nor given back
abbrev pub fresh : ℕ → Turn
fresh pool = record { pool = pool; taken = false; given = false }

-- the pools of turns, in order
abbrev pub pools_in : List Turn → List ℕ
pools_in turns = map (λ turn. turn.pool) turns

-- the pools of those turns that pass a test
abbrev pub pools_where : (Turn → Bool) → List Turn → PoolSet
pools_where test turns = set.from_list (pools_in (filter test turns))

-- the pools that were taken
abbrev pub taken_in : List Turn → PoolSet
taken_in turns = pools_where (λ turn. turn.taken) turns

-- the pools that were given back
abbrev pub given_in : List Turn → PoolSet
given_in turns = pools_where (λ turn. turn.given) turns

-- ---- systems

-- the pools that a system names
abbrev pub pools_of : Progress → List ℕ
pools_of progress = pools_in progress.turns.items

-- how far a system is
abbrev pub state_of : Progress → SystemState
state_of progress = record {
  claimed = progress.claimed;
  done = progress.done;
  taken = taken_in progress.turns.items;
  given = given_in progress.turns.items;
}

-- ---- versions

-- a pool at version 0
abbrev pub at_zero : ℕ → PoolVersion
at_zero pool = record { pool = pool; version = 0 }

-- the pools that have a version, in order
abbrev pub versioned : List PoolVersion → List ℕ
versioned versions = map (λ at. at.pool) versions

-- the version of each pool
abbrev pub versions_in : List PoolVersion → Versions
versions_in versions = entries.from_entries (map (λ at. (at.pool, at.version)) versions)

-- the version of a pool; 0 where there is none
abbrev pub version_in : List PoolVersion → ℕ → ℕ
version_in versions pool = unwrap_or (entries.get (versions_in versions) pool) 0
