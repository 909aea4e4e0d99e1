-- The state of a tick's core: how far each system is, and the version of each pool.
use Rattle.std.specs.Prelude.{ℕ, Bool, false, List, map, flat_map, slice_index_or, unwrap_or, refl}
use Rattle.std.specs.Coded.{Coded, code_by, coded×, coded_bool, coded_ℕ, coded_list}
use Rattle.std.specs.FinMap as entries
use Rattle.std.specs.FinSet as set
use Rattle.std.specs.Ordering.{nat_cmp}
use Rattle.world_model.specs.declared.access.Access.{Access}
use Rattle.world_model.specs.contracts.access.Access.{the_row}
use Rattle.world_model.specs.Frames.{system_pools}
use Rattle.world_model.specs.Groups.{has_pool}
use Rattle.access_graph.specs.Conflicts.{access_at, systems_conflict}

-- ---- states

-- a set of pools
abbrev pub PoolSet : Type 0
PoolSet = set.FinSet nat_cmp

-- a version for some pools
abbrev pub Versions : Type 0
Versions = entries.FinMap nat_cmp ℕ

-- how far a system is: whether it was claimed and whether it is done, the pools that it has taken, and those that it has given back
pub record SystemState : Type 0 where
  pub claimed : Bool
  pub done : Bool
  pub taken : PoolSet
  pub given : PoolSet

-- what each system uses, how far it is, and the version of each pool
pub record CoreState : Type 0 where
  pub accesses : List Access
  pub systems : List SystemState
  pub versions : Versions

-- by which a proof tells states apart: each is stored as its parts
abbrev pub system_code : Coded SystemState
system_code =
    code_by (Bool × (Bool × (PoolSet × PoolSet))) (coded× coded_bool (coded× coded_bool (coded× (set.code coded_ℕ) (set.code coded_ℕ))))
    (λ system. (system.claimed, (system.done, (system.taken, system.given))))
    (λ parts. record { claimed = parts.0; done = parts.1.0; taken = parts.1.1.0; given = parts.1.1.1 }) (λ _. refl)

abbrev pub state_code : Coded CoreState
state_code =
    code_by (List Access × (List SystemState × Versions)) (coded× (coded_list the_row.coded) (coded× (coded_list system_code) (entries.code coded_ℕ coded_ℕ)))
    (λ state. (state.accesses, (state.systems, state.versions)))
    (λ parts. record { accesses = parts.0; systems = parts.1.0; versions = parts.1.1 }) (λ _. refl)

-- ---- at the start

-- a system that has done nothing
abbrev pub idle : SystemState
idle = record { claimed = false; done = false; taken = set.empty; given = set.empty }

-- the pools that systems write, as often as they name them so
abbrev pub written_pools : List Access → List ℕ
written_pools accesses = flat_map (λ access. access.write) accesses

-- all systems have done nothing, and each pool that one of them writes is at version 0
abbrev pub start : List Access → CoreState
start accesses = record {
  accesses = accesses;
  systems = map (λ _. idle) accesses;
  versions = entries.from_entries (map (λ pool. (pool, 0)) (written_pools accesses));
}

-- ---- what is asked of a state

-- how far a system is; one that isn't there has done nothing
abbrev pub system_at : CoreState → ℕ → SystemState
system_at state i = slice_index_or state.systems i idle

-- whether a system was claimed
abbrev pub is_claimed : CoreState → ℕ → Bool
is_claimed state i = (system_at state i).claimed

-- whether a system is done
abbrev pub is_done : CoreState → ℕ → Bool
is_done state i = (system_at state i).done

-- whether a system has taken a pool
abbrev pub has_taken : CoreState → ℕ → ℕ → Bool
has_taken state i pool = set.contains (system_at state i).taken pool

-- whether a system has given a pool back
abbrev pub has_given : CoreState → ℕ → ℕ → Bool
has_given state i pool = set.contains (system_at state i).given pool

-- whether a system names a pool, in any of its lists
abbrev pub names : CoreState → ℕ → ℕ → Bool
names state i pool = has_pool (system_pools (access_at state.accesses i)) pool

-- whether a system writes a pool
abbrev pub writes : CoreState → ℕ → ℕ → Bool
writes state i pool = has_pool (access_at state.accesses i).write pool

-- whether two systems conflict
abbrev pub are_conflicting : CoreState → ℕ → ℕ → Bool
are_conflicting state i j = systems_conflict (access_at state.accesses i) (access_at state.accesses j)

-- the version of a pool; one that no system writes is at version 0
abbrev pub version_at : CoreState → ℕ → ℕ
version_at state pool = unwrap_or (entries.get state.versions pool) 0
