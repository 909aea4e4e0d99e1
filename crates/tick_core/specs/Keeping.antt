-- What a core's fields stand for, and what they keep. No public clause cites this module.
use Rattle.std.specs.Prelude.{◌≡◌, ◌≤◌, List, map, length}
use Rattle.world_model.specs.declared.access.Access.{Access}
use Rattle.world_model.specs.Frames.{system_pools}
use Rattle.access_graph.specs.Systems.{system_limit}
use Rattle.tick_core.specs.declared.progress.Progress.{Progress}
use Rattle.tick_core.specs.declared.versions.PoolVersion.{PoolVersion}
use Rattle.tick_core.specs.Facts.{HasFacts}
use Rattle.tick_core.specs.Layout.{pools_of, state_of, versioned, versions_in}
use Rattle.tick_core.specs.States.{CoreState, written_pools}

-- the state that a core's fields stand for
abbrev pub state_in : List Access → List Progress → List PoolVersion → CoreState
state_in accesses systems versions = record {
  accesses = accesses;
  systems = map state_of systems;
  versions = versions_in versions;
}

-- what a core's fields keep: there are few systems, each with a turn for each pool that it names; each pool that one of them writes has a
-- version; and the state has the facts
pub record IsKept (accesses : List Access) (systems : List Progress) (versions : List PoolVersion) : Type 0 where
  pub few : length accesses ≤ system_limit
  pub named : map pools_of systems ≡ map system_pools accesses
  pub written : versioned versions ≡ written_pools accesses
  pub facts : HasFacts (state_in accesses systems versions)
