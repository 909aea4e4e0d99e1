-- Worked graphs: their edges and waves, by tests that compute and say what the definitions say (`proofs/OrderTests.antt`).
use Rattle.std.proofs.Common.{◌≡◌, ℕ, List, [], ◌∷◌, length, map, cond, refl}
use Rattle.std.specs.Prelude.{flat_map}
use Rattle.std.specs.List.{range_with_len}
use Rattle.std.proofs.lemmas.Bool.{both_ways}
use Rattle.world_model.specs.declared.access.Access.{Access}
use Rattle.access_graph.specs.Conflicts.{IsEdge, need, writers}
use Rattle.access_graph.proofs.OrderTests.{is_edge, wave_within, edge_from_test, test_from_edge}

abbrev writes : List ℕ → Access
writes pools = record { read = []; write = pools; look = []; without = [] }

abbrev reads : List ℕ → Access
reads pools = record { read = pools; write = []; look = []; without = [] }

abbrev edges_to : List Access → ℕ → List (ℕ × ℕ)
edges_to systems j = flat_map (λ i. cond (is_edge systems i j) ((i, j) ∷ []) []) (range_with_len 0 (length systems))

abbrev edges_of : List Access → List (ℕ × ℕ)
edges_of systems = flat_map (edges_to systems) (range_with_len 0 (length systems))

abbrev waves_of : List Access → List ℕ
waves_of systems = map (wave_within (length systems) systems) (range_with_len 0 (length systems))

-- ---- readers between two writers, and one that has nothing to do with them

abbrev five : List Access
five = writes (0 ∷ []) ∷ reads (0 ∷ []) ∷ reads (0 ∷ []) ∷ writes (0 ∷ []) ∷ writes (1 ∷ []) ∷ []

five_edges : edges_of five ≡ (0, 1) ∷ (0, 2) ∷ (1, 3) ∷ (2, 3) ∷ []
five_edges = refl

five_waves : waves_of five ≡ 0 ∷ 1 ∷ 1 ∷ 2 ∷ 0 ∷ []
five_waves = refl

-- the edges are those of the definition, and the first writer has none to the second
third_edge : IsEdge five 1 3
third_edge = edge_from_test five 1 3 refl

no_long_edge : IsEdge five 0 3 → ⊥
no_long_edge edge = both_ways (is_edge five 0 3) refl (test_from_edge five 0 3 edge)

five_writers : writers five 0 ≡ 2
five_writers = refl

-- the second writer, the last system and the first one, each by how often the component was written before
five_needs : map (λ i. need five i 0) (0 ∷ 1 ∷ 2 ∷ 3 ∷ 4 ∷ []) ≡ 0 ∷ 1 ∷ 1 ∷ 1 ∷ 2 ∷ []
five_needs = refl

-- ---- three writers of one component: the pair of the first and the last is implied

abbrev chain : List Access
chain = writes (0 ∷ []) ∷ writes (0 ∷ []) ∷ writes (0 ∷ []) ∷ []

chain_edges : edges_of chain ≡ (0, 1) ∷ (1, 2) ∷ []
chain_edges = refl

chain_waves : waves_of chain ≡ 0 ∷ 1 ∷ 2 ∷ []
chain_waves = refl

-- ---- a diamond: one that looks and one that excludes, between a writer of both and a reader of what they write

abbrev diamond : List Access
diamond =
    writes (0 ∷ 1 ∷ [])
    ∷ record { read = []; write = 2 ∷ []; look = 0 ∷ []; without = [] }
    ∷ record { read = []; write = 3 ∷ []; look = []; without = 1 ∷ [] }
    ∷ reads (2 ∷ 3 ∷ []) ∷ []

diamond_edges : edges_of diamond ≡ (0, 1) ∷ (0, 2) ∷ (1, 3) ∷ (2, 3) ∷ []
diamond_edges = refl

diamond_waves : waves_of diamond ≡ 0 ∷ 1 ∷ 1 ∷ 2 ∷ []
diamond_waves = refl
