-- A graph on the way: that of the first systems of a list. No public clause cites this module.
use Rattle.std.specs.Prelude.{◌≡◌, ◌↔◌, ℕ, zero, suc, ◌<◌, ◌≤◌, ◌+◌, ◌++◌, ◌⊎◌, List, [], ◌∷◌, if◌then◌else◌, length, slice_index, IsTrue}
use Rattle.std.specs.FinSet as set
use Rattle.world_model.specs.declared.access.Access.{Access}
use Rattle.access_graph.specs.declared.edge.Edge.{Edge}
use Rattle.access_graph.specs.Conflicts.{ComesBefore, IsReachable, IsEdge, IsWave}
use Rattle.access_graph.specs.Graphs.{set_at, has_edge, AreOrdered}
use Rattle.access_graph.specs.Systems.{SystemSet}

-- a system reaches one of those below this number that come before j, by the sets of those that reach each
abbrev pub IsImplied : List Access → List SystemSet → ℕ → ℕ → ℕ → Type 0
IsImplied systems reached j below i = (k : ℕ) × (k < below) × ComesBefore systems k j × IsTrue (set.contains (set_at reached k) i)

-- the edges to a system from those of a set, the first ones below this number
abbrev pub edges_from : SystemSet → ℕ → ℕ → List Edge
edges_from sources to zero = []
edges_from sources to (suc n) =
    edges_from sources to n ++ (if set.contains sources n then record { from = n; to = to } ∷ [] else [])

-- one more than the greatest wave of a set's systems, the first ones below this number; 0 where there is none
pub record IsWaveAfter (sources : SystemSet) (waves : List ℕ) (below wave : ℕ) : Type 0 where
  pub above : (i : ℕ) → i < below → IsTrue (set.contains sources i) → slice_index waves i < wave
  pub least : (wave ≡ 0) ⊎ ((i : ℕ) × (i < below) × IsTrue (set.contains sources i) × (wave ≡ slice_index waves i + 1))

-- the edges to the first systems, in order
pub record AreEdgesBelow (systems : List Access) (below : ℕ) (edges : List Edge) : Type 0 where
  pub each : (i j : ℕ) → IsTrue (has_edge edges i j) ↔ ((j < below) × IsEdge systems i j)
  pub ordered : AreOrdered edges

-- what is built of the first systems: whom each waits for, who reaches it, its wave, and the edges to them
pub record IsBuilt (systems : List Access) (count : ℕ) (preds reached : List SystemSet) (waves : List ℕ) (edges : List Edge) : Type 0 where
  pub within : count ≤ length systems
  pub preds_counted : length preds ≡ count
  pub reached_counted : length reached ≡ count
  pub waves_counted : length waves ≡ count
  pub preds_are : (j : ℕ) → j < count → (i : ℕ) → IsTrue (set.contains (set_at preds j) i) ↔ ComesBefore systems i j
  pub reached_are : (j : ℕ) → j < count → (i : ℕ) → IsTrue (set.contains (set_at reached j) i) ↔ IsReachable systems i j
  pub waves_are : (j : ℕ) → j < count → IsWave systems j (slice_index waves j)
  pub low : (j : ℕ) → j < count → slice_index waves j ≤ j
  pub edges_are : AreEdgesBelow systems count edges
