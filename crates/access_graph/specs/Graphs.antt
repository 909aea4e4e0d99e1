-- What a contract sees of a graph, and which systems it is the graph of.
use Rattle.std.specs.Prelude.{◌≡◌, ◌↔◌, ℕ, ◌<◌, Bool, ◌&&◌, ◌==◌, List, [], ◌∷◌, ◌⊎◌, length, slice_index, slice_index_or, refl, IsTrue}
use Rattle.std.specs.Coded.{Coded, code_by, coded×, coded_ℕ, coded_list}
use Rattle.std.specs.FinSet as set
use Rattle.std.specs.List.{list_any, AllByRecursion}
use Rattle.world_model.specs.declared.access.Access.{Access}
use Rattle.access_graph.specs.declared.edge.Edge.{Edge}
use Rattle.access_graph.specs.contracts.edge.Edge.{the_row}
use Rattle.access_graph.specs.Conflicts.{ComesBefore, IsEdge, IsWave}
use Rattle.access_graph.specs.Systems.{SystemSet}

-- for each system those that it waits for and its wave, and the edges of all
pub record SystemGraph : Type 0 where
  pub preds : List SystemSet
  pub waves : List ℕ
  pub edges : List Edge

-- by which a proof tells graphs apart: one is stored as its three parts
abbrev pub graph_code : Coded SystemGraph
graph_code =
    code_by (List SystemSet × (List ℕ × List Edge))
    (coded× (coded_list (set.code coded_ℕ)) (coded× (coded_list coded_ℕ) (coded_list the_row.coded)))
    (λ graph. (graph.preds, (graph.waves, graph.edges)))
    (λ parts. record { preds = parts.0; waves = parts.1.0; edges = parts.1.1 }) (λ _. refl)

-- the set of this number; one that isn't there is empty
abbrev pub set_at : List SystemSet → ℕ → SystemSet
set_at sets j = slice_index_or sets j set.empty

-- ---- lists of edges

-- whether a list has the edge from i to j
abbrev pub has_edge : List Edge → ℕ → ℕ → Bool
has_edge edges i j = list_any (λ edge. (edge.from == i) && (edge.to == j)) edges

-- one edge stands before another: by where they lead to, and then by where they come from
abbrev pub StandsBefore : Edge → Edge → Type 0
StandsBefore a b = (a.to < b.to) ⊎ ((a.to ≡ b.to) × (a.from < b.from))

-- each edge stands before all that follow
abbrev pub AreOrdered : List Edge → Type 0
AreOrdered [] = Unit {0}
AreOrdered (edge ∷ edges) = AllByRecursion (StandsBefore edge) edges × AreOrdered edges

-- the edges of these systems, each once, in order
pub record AreEdges (systems : List Access) (edges : List Edge) : Type 0 where
  pub each : (i j : ℕ) → IsTrue (has_edge edges i j) ↔ IsEdge systems i j
  pub ordered : AreOrdered edges

-- ---- a graph

-- the graph of these systems: for each of them the earlier ones that conflict with it, and its wave; and the edges of all
pub record IsGraphOf (systems : List Access) (graph : SystemGraph) : Type 0 where
  pub counted : length graph.preds ≡ length systems
  pub waves_counted : length graph.waves ≡ length systems
  pub preds : (i j : ℕ) → IsTrue (set.contains (set_at graph.preds j) i) ↔ ComesBefore systems i j
  pub waves : (j : ℕ) → j < length systems → IsWave systems j (slice_index graph.waves j)
  pub edges : AreEdges systems graph.edges
