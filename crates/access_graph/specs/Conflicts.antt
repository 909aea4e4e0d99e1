-- The order among systems that conflict, its least edges, and waves. A system is its place in a list of accesses.
use Rattle.std.specs.Prelude.{◌≡◌, ℕ, zero, suc, ◌<◌, ◌≤◌, Bool, ◌||◌, List, [], length, take, slice_index_or, count_by, IsTrue}
use Rattle.std.specs.List.{list_any}
use Rattle.world_model.specs.declared.access.Access.{Access}
use Rattle.world_model.specs.Frames.{system_pools}
use Rattle.world_model.specs.Groups.{has_pool}

-- ---- conflicts

-- whether one writes a component that the other names in any of its lists: that it reads, writes, looks at or excludes
abbrev pub systems_conflict : Access → Access → Bool
systems_conflict a b = list_any (has_pool (system_pools b)) a.write || list_any (has_pool (system_pools a)) b.write

-- the access of a system; one that isn't there names nothing
abbrev pub access_at : List Access → ℕ → Access
access_at systems i = slice_index_or systems i (record { read = []; write = []; look = []; without = [] })

-- of two systems that conflict, the earlier one comes before the later one
pub record ComesBefore (systems : List Access) (i j : ℕ) : Type 0 where
  pub earlier : i < j
  pub in_range : j < length systems
  pub conflict : IsTrue (systems_conflict (access_at systems i) (access_at systems j))

-- ---- paths

-- a walk of this many steps leads from i to j
abbrev pub Walk : (ℕ → ℕ → Type 0) → ℕ → ℕ → ℕ → Type 0
Walk Step zero i j = i ≡ j
Walk Step (suc n) i j = (k : ℕ) × Step i k × Walk Step n k j

-- a walk of one step or more leads from i to j
abbrev pub Reaches : (ℕ → ℕ → Type 0) → ℕ → ℕ → Type 0
Reaches Step i j = (n : ℕ) × Walk Step (suc n) i j

-- j is reached from i by one pair of the conflict order or more: j has to wait for i
abbrev pub IsReachable : List Access → ℕ → ℕ → Type 0
IsReachable systems i j = Reaches (ComesBefore systems) i j

-- ---- least edges, and waves

-- a least edge: i comes before j, and no system is reached from i and reaches j
pub record IsEdge (systems : List Access) (i j : ℕ) : Type 0 where
  pub before : ComesBefore systems i j
  pub least : (k : ℕ) → IsReachable systems i k → IsReachable systems k j → ⊥

-- an edge from a to b that isn't the one from i to j
abbrev pub IsOtherEdge : List Access → ℕ → ℕ → ℕ → ℕ → Type 0
IsOtherEdge systems i j a b = IsEdge systems a b × ((a ≡ i) × (b ≡ j) → ⊥)

-- no edge leads to a system: it waits for none
abbrev pub IsTopLevel : List Access → ℕ → Type 0
IsTopLevel systems j = (i : ℕ) → IsEdge systems i j → ⊥

-- the wave of a system: the longest walk along edges that leads to it has this many
pub record IsWave (systems : List Access) (j wave : ℕ) : Type 0 where
  pub walk : (i : ℕ) × Walk (IsEdge systems) wave i j
  pub longest : (i n : ℕ) → Walk (IsEdge systems) n i j → n ≤ wave

-- ---- writers

-- how many systems write a component
abbrev pub writers : List Access → ℕ → ℕ
writers systems pool = count_by (λ access. has_pool access.write pool) systems

-- how many systems before this one write a component: so often it has been written once it is the system's turn
abbrev pub need : List Access → ℕ → ℕ → ℕ
need systems i pool = writers (take i systems) pool
