-- Which steps can be taken in a state, what they change, and which of them is the first.
use Rattle.std.specs.Prelude.{◌≡◌, ℕ, ◌+◌, ◌<◌, ◌⊎◌, true, length, slice_set, IsTrue, IsFalse}
use Rattle.std.specs.FinMap as entries
use Rattle.std.specs.FinSet as set
use Rattle.tick_core.specs.declared.step.Step.{Step}
use Rattle.tick_core.specs.declared.step.Step.TheVariants.{Claim, Take, Leave, Put, Finish}
use Rattle.tick_core.specs.States.{CoreState, SystemState, are_conflicting, has_given, has_taken, is_claimed, is_done, names, system_at, version_at, writes}

-- ---- where a step can be taken

-- a system can be claimed: it wasn't yet, and all earlier systems that conflict with it are done
pub record CanClaim (state : CoreState) (i : ℕ) : Type 0 where
  pub there : i < length state.systems
  pub unclaimed : IsFalse (is_claimed state i)
  pub earlier_done : (k : ℕ) → k < i → IsTrue (are_conflicting state k i) → IsTrue (is_done state k)

-- a system can take a pool: it was claimed and isn't done, and the pool is one of its own that it hasn't taken
pub record CanTake (state : CoreState) (i pool : ℕ) : Type 0 where
  pub there : i < length state.systems
  pub claimed : IsTrue (is_claimed state i)
  pub not_done : IsFalse (is_done state i)
  pub own : IsTrue (names state i pool)
  pub not_taken : IsFalse (has_taken state i pool)

-- a system holds a pool: it has taken it, and not given it back
pub record Holds (state : CoreState) (i pool : ℕ) : Type 0 where
  pub taken : IsTrue (has_taken state i pool)
  pub kept : IsFalse (has_given state i pool)

-- a system can give a pool back: it has taken all its pools, and holds this one
pub record CanGive (state : CoreState) (i pool : ℕ) : Type 0 where
  pub there : i < length state.systems
  pub all_taken : (other : ℕ) → IsTrue (names state i other) → IsTrue (has_taken state i other)
  pub holds : Holds state i pool

-- a system can finish: it was claimed and isn't done, and it has taken all its pools and given them back
pub record CanFinish (state : CoreState) (i : ℕ) : Type 0 where
  pub there : i < length state.systems
  pub claimed : IsTrue (is_claimed state i)
  pub not_done : IsFalse (is_done state i)
  pub all_taken : (pool : ℕ) → IsTrue (names state i pool) → IsTrue (has_taken state i pool)
  pub all_given : (pool : ℕ) → IsTrue (names state i pool) → IsTrue (has_given state i pool)

-- a step can be taken: nothing is said of a pool's version, and nothing of who else holds it
abbrev pub CanStep : CoreState → Step → Type 0
CanStep state (Claim i) = CanClaim state i
CanStep state (Take i pool) = CanTake state i pool
CanStep state (Leave i pool) = CanGive state i pool × IsFalse (writes state i pool)
CanStep state (Put i pool) = CanGive state i pool × IsTrue (writes state i pool)
CanStep state (Finish i) = CanFinish state i

-- ---- what a step changes

-- a system is this far, and all else is as before
abbrev pub with_system : CoreState → ℕ → SystemState → CoreState
with_system state i system = record state { systems = slice_set state.systems i system }

-- a system has given a pool back, and all else is as before
abbrev pub with_given : CoreState → ℕ → ℕ → CoreState
with_given state i pool = let system = system_at state i in with_system state i (record system { given = set.insert system.given pool })

-- a pool is at the next version, and all else is as before
abbrev pub with_next_version : CoreState → ℕ → CoreState
with_next_version state pool = record state { versions = entries.insert state.versions pool (version_at state pool + 1) }

-- the state after a step
abbrev pub after : CoreState → Step → CoreState
after state (Claim i) = let system = system_at state i in with_system state i (record system { claimed = true })
after state (Take i pool) = let system = system_at state i in with_system state i (record system { taken = set.insert system.taken pool })
after state (Leave i pool) = with_given state i pool
after state (Put i pool) = with_next_version (with_given state i pool) pool
after state (Finish i) = let system = system_at state i in with_system state i (record system { done = true })

-- ---- the first of several steps

-- the place of a step's kind: Claim, Take, Leave, Put, Finish
abbrev pub kind_of : Step → ℕ
kind_of (Claim i) = 0
kind_of (Take i pool) = 1
kind_of (Leave i pool) = 2
kind_of (Put i pool) = 3
kind_of (Finish i) = 4

-- the system that a step is of
abbrev pub system_of : Step → ℕ
system_of (Claim i) = i
system_of (Take i pool) = i
system_of (Leave i pool) = i
system_of (Put i pool) = i
system_of (Finish i) = i

-- the pool that a step names; 0 where it names none
abbrev pub pool_of : Step → ℕ
pool_of (Claim i) = 0
pool_of (Take i pool) = pool
pool_of (Leave i pool) = pool
pool_of (Put i pool) = pool
pool_of (Finish i) = 0

-- one step stands before another: by kind, then by system, then by pool
abbrev pub StandsBefore : Step → Step → Type 0
StandsBefore a b =
    (kind_of a < kind_of b)
    ⊎ ((kind_of a ≡ kind_of b) × ((system_of a < system_of b) ⊎ ((system_of a ≡ system_of b) × (pool_of a < pool_of b))))

-- the first step that can be taken
pub record IsFirstStep (state : CoreState) (step : Step) : Type 0 where
  pub can : CanStep state step
  pub first : (other : Step) → CanStep state other → StandsBefore other step → ⊥
