-- Any systems have a list of their edges.
use Rattle.std.proofs.Common.{◌≡◌, ◌↔◌, inl, inr, ℕ, zero, suc, ◌<◌, true, eqb, List, [], ◌++◌, length, subst, sym, ◌∙◌, arith}
use Rattle.std.specs.FinSet as set
use Rattle.std.proofs.lemmas.Bool.{cases_eq, eqb-true, eq-eqb, or_cases, or_left, or_right, false≢true}
use Rattle.world_model.specs.declared.access.Access.{Access}
use Rattle.access_graph.specs.declared.edge.Edge.{Edge}
use Rattle.access_graph.specs.Building.{AreEdgesBelow, edges_from}
use Rattle.access_graph.specs.Conflicts.{IsEdge}
use Rattle.access_graph.specs.Graphs.{AreEdges}
use Rattle.access_graph.specs.Systems.{SystemSet}
use Rattle.access_graph.proofs.BuildingLemmas.{edges_more}
use Rattle.access_graph.proofs.StepLemmas.{empty_has, insert_cases}

-- a set has the systems below this number from which edges lead to a system
abbrev AreSources : List Access → ℕ → ℕ → SystemSet → Type 0
AreSources systems to n sources = (i : ℕ) → (set.contains sources i ≡ true) ↔ ((i < n) × IsEdge systems i to)

with_one : (systems : List Access) (to n : ℕ) (sources : SystemSet) → AreSources systems to n sources → IsEdge systems n to → AreSources systems to (suc n) (set.insert sources n)
with_one systems to n sources are edge i = (there, back)
  where
    there : set.contains (set.insert sources n) i ≡ true → (i < suc n) × IsEdge systems i to
    there has = elim (or_cases (eqb i n) (set.contains sources i) (sym (insert_cases sources n i) ∙ has)) [
      | inl same ↦ let is = eqb-true i n same in (omega (arith, is), subst (λ (x : ℕ). IsEdge systems x to) (sym is) edge)
      | inr old ↦ let h = (are i).0 old in (omega (arith, h.0), h.1)
    ]

    back : (i < suc n) × IsEdge systems i to → set.contains (set.insert sources n) i ≡ true
    back h = insert_cases sources n i ∙ elim (cases_eq i n) [
      | inl same ↦ or_left (eqb i n) (set.contains sources i) (eq-eqb i n same)
      | inr apart ↦ or_right (eqb i n) (set.contains sources i) ((are i).1 (omega (arith, h.0), h.1))
    ]

without_one : (systems : List Access) (to n : ℕ) (sources : SystemSet) → AreSources systems to n sources → (IsEdge systems n to → ⊥) → AreSources systems to (suc n) sources
without_one systems to n sources are no_edge i = (
  (λ has. let h = (are i).0 has in (omega (arith, h.0), h.1)),
  (λ h. elim (cases_eq i n) [
    | inl same ↦ absurd (no_edge (subst (λ (x : ℕ). IsEdge systems x to) same h.1))
    | inr apart ↦ (are i).1 (omega (arith, h.0), h.1)
  ]),
)

have_sources : (systems : List Access) (to n : ℕ) → ((sources : SystemSet) → AreSources systems to n sources → ⊥) → ⊥
have_sources systems to zero none = none set.empty (λ i. ((λ has. empty_has ((i < 0) × IsEdge systems i to) i has), (λ h. absurd (omega (arith, h.0)))))
have_sources systems to (suc n) none = have_sources systems to n (λ sources are.
    let no_edge : IsEdge systems n to → ⊥ = λ edge. none (set.insert sources n) (with_one systems to n sources are edge) in
    none sources (without_one systems to n sources are no_edge))

all_sources : (systems : List Access) (to : ℕ) (sources : SystemSet) → AreSources systems to to sources → (i : ℕ) → (set.contains sources i ≡ true) ↔ IsEdge systems i to
all_sources systems to sources are i = ((λ has. ((are i).0 has).1), (λ edge. (are i).1 (edge.before.earlier, edge)))

edges_below : (systems : List Access) (n : ℕ) → ((edges : List Edge) → AreEdgesBelow systems n edges → ⊥) → ⊥
edges_below systems zero none = none [] (record { each = λ i j. ((λ has. absurd (false≢true has)), (λ h. absurd (omega (arith, h.0)))); ordered = tt })
edges_below systems (suc n) none = edges_below systems n (λ edges are. have_sources systems n n (λ sources sources_are.
    none (edges ++ edges_from sources n n)
    (subst (λ (k : ℕ). AreEdgesBelow systems k (edges ++ edges_from sources n n)) (omega arith) (edges_more systems n edges sources (all_sources systems n sources sources_are) are))))

-- there can't be none
pub have_edges : (systems : List Access) → ((edges : List Edge) → AreEdges systems edges → ⊥) → ⊥
have_edges systems none = edges_below systems (length systems) (λ edges are. none edges (record {
  each = λ i j. ((λ has. ((are.each i j).0 has).1), (λ edge. (are.each i j).1 (edge.before.in_range, edge)));
  ordered = are.ordered;
}))
