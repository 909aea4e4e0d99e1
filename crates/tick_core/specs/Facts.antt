-- What holds in every state of a tick's core that can be reached.
use Rattle.std.specs.Prelude.{◌≡◌, ℕ, ◌+◌, ◌<◌, ◌&&◌, List, [], ◌∷◌, if◌then◌else◌, length, IsTrue, IsFalse}
use Rattle.std.specs.FinSet as set
use Rattle.world_model.specs.declared.access.Access.{Access}
use Rattle.world_model.specs.Groups.{has_pool}
use Rattle.tick_core.specs.States.{CoreState, SystemState, are_conflicting, has_given, has_taken, is_claimed, is_done, names, version_at}

-- how many of the systems that write a pool have given it back
abbrev pub given_count : List Access → List SystemState → ℕ → ℕ
given_count [] systems pool = 0
given_count (access ∷ accesses) [] pool = 0
given_count (access ∷ accesses) (system ∷ systems) pool =
    (if has_pool access.write pool && set.contains system.given pool then 1 else 0) + given_count accesses systems pool

-- the facts on claims, on turns and on versions
pub record HasFacts (state : CoreState) : Type 0 where
  -- there is one state for each system
  pub counted : length state.systems ≡ length state.accesses
  -- a system that is done was claimed
  pub done_claimed : (i : ℕ) → IsTrue (is_done state i) → IsTrue (is_claimed state i)
  -- an earlier system that conflicts with a claimed one is done
  pub earlier_done : (i j : ℕ) → i < j → IsTrue (are_conflicting state i j) → IsTrue (is_claimed state j) → IsTrue (is_done state i)
  -- a system that wasn't claimed has taken nothing
  pub unclaimed : (i pool : ℕ) → IsFalse (is_claimed state i) → IsFalse (has_taken state i pool)
  -- a system has taken only its own pools
  pub own : (i pool : ℕ) → IsTrue (has_taken state i pool) → IsTrue (names state i pool)
  -- a system has given back only what it has taken
  pub given_taken : (i pool : ℕ) → IsTrue (has_given state i pool) → IsTrue (has_taken state i pool)
  -- a system has given back nothing before it had taken all its pools
  pub all_first : (i pool other : ℕ) → IsTrue (has_given state i pool) → IsTrue (names state i other) → IsTrue (has_taken state i other)
  -- a system that is done has given back all its pools
  pub done_given : (i pool : ℕ) → IsTrue (is_done state i) → IsTrue (names state i pool) → IsTrue (has_given state i pool)
  -- the version of a pool is how many of its writers have given it back
  pub versions : (pool : ℕ) → version_at state pool ≡ given_count state.accesses state.systems pool
