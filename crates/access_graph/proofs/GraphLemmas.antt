-- A whole graph.
use Rattle.std.proofs.Common.{◌≡◌, ◌↔◌, ℕ, ◌<◌, ◌≤◌, true, false, not, eqb, List, length, ap, ◌∙◌, inl, inr, sym, get_or, arith}
use Rattle.std.specs.FinSet as set
use Rattle.std.specs.List.{list_any}
use Rattle.std.specs.Cmp.{nat_cmp_total}
use Rattle.std.specs.Ordering.{nat_cmp}
use Rattle.std.proofs.lemmas.Bool.Decides.{same_from_decides}
use Rattle.std.proofs.lemmas.Bool.{cases_lt, both_ways, not-true, not_from_false, false_from_ne_true}
use Rattle.std.proofs.lemmas.List.{get_or_past, ext_get_or}
use Rattle.world_model.specs.declared.access.Access.{Access}
use Rattle.access_graph.specs.declared.edge.Edge.{Edge}
use Rattle.access_graph.specs.Building.{IsBuilt}
use Rattle.access_graph.specs.Conflicts.{ComesBefore, IsTopLevel}
use Rattle.access_graph.specs.Graphs.{AreEdges, IsGraphOf, SystemGraph, set_at}
use Rattle.access_graph.specs.Systems.{SystemSet}
use Rattle.access_graph.proofs.EdgeLemmas.{some_to, one_list, one_to}
use Rattle.access_graph.proofs.OrderLemmas.{one_wave}

-- what is built of all systems is their graph
pub graph_from_built : (systems : List Access) (preds reached : List SystemSet) (waves : List ℕ) (edges : List Edge)
    → IsBuilt systems (length systems) preds reached waves edges → IsGraphOf systems (record { preds = preds; waves = waves; edges = edges })
graph_from_built systems preds reached waves edges built = record {
  counted = built.preds_counted;
  waves_counted = built.waves_counted;
  preds = λ i j. elim (cases_lt j (length systems)) [
    | inl low ↦ built.preds_are j low i
    | inr high ↦ ((λ has. absurd (both_ways _ (past j high i) has)), (λ before. let low : j < length systems = before.in_range in absurd (omega arith)))
  ];
  waves = built.waves_are;
  edges = record {
    each = λ i j. ((λ has. ((built.edges_are.each i j).0 has).1), (λ edge. (built.edges_are.each i j).1 (edge.before.in_range, edge)));
    ordered = built.edges_are.ordered;
  };
}
  where
    past : (j : ℕ) → length systems ≤ j → (i : ℕ) → set.contains (set_at preds j) i ≡ false
    past j high i =
        ap (λ s. set.contains s i) (get_or_past preds j set.empty (let e = built.preds_counted in omega arith)) ∙ set.contains-empty nat_cmp i

-- no edge leads to a system exactly where no edge of the list does
pub top_level : (systems : List Access) (graph : SystemGraph) (j : ℕ) → IsGraphOf systems graph
    → (not (list_any (λ edge. eqb edge.to j) graph.edges) ≡ true) ↔ IsTopLevel systems j
top_level systems graph j is = (there, back)
  where
    there : not (list_any (λ edge. eqb edge.to j) graph.edges) ≡ true → IsTopLevel systems j
    there none i edge = both_ways _ (not-true _ none) (some_to graph.edges i j ((is.edges.each i j).1 edge))

    back : IsTopLevel systems j → not (list_any (λ edge. eqb edge.to j) graph.edges) ≡ true
    back top = not_from_false _ (false_from_ne_true _ (λ some. let one = one_to graph.edges j some in top one.0 ((is.edges.each one.0 j).0 one.1)))

-- ---- one graph

one_set : (a b : SystemSet) (P : ℕ → Type 0) → ((i : ℕ) → (set.contains a i ≡ true) ↔ P i) → ((i : ℕ) → (set.contains b i ≡ true) ↔ P i) → a ≡ b
one_set a b P a_is b_is = set.same_set nat_cmp_total set.nat_cmp-IsAntisymmetric a b (λ i. same_from_decides {P = P i} _ _ (a_is i) (b_is i))

pub one_edge_list : (systems : List Access) (edges others : List Edge) → AreEdges systems edges → AreEdges systems others → edges ≡ others
one_edge_list systems edges others a b =
    one_list edges others a.ordered b.ordered (λ i j has. (b.each i j).1 ((a.each i j).0 has)) (λ i j has. (a.each i j).1 ((b.each i j).0 has))

pub one_graph : (systems : List Access) (a b : SystemGraph) → IsGraphOf systems a → IsGraphOf systems b → a ≡ b
one_graph systems a b a_is b_is = joined same_preds same_waves (one_edge_list systems a.edges b.edges a_is.edges b_is.edges)
  where
    joined : a.preds ≡ b.preds → a.waves ≡ b.waves → a.edges ≡ b.edges → a ≡ b
    joined e f g = (λ t. record { preds = e t; waves = f t; edges = g t })

    same_preds : a.preds ≡ b.preds
    same_preds = ext_get_or set.empty a.preds b.preds (a_is.counted ∙ sym b_is.counted) (λ j low.
        one_set (set_at a.preds j) (set_at b.preds j) (λ i. ComesBefore systems i j) (λ i. a_is.preds i j) (λ i. b_is.preds i j))

    same_waves : a.waves ≡ b.waves
    same_waves = ext_get_or 0 a.waves b.waves (a_is.waves_counted ∙ sym b_is.waves_counted) (λ j low.
        let in_range : j < length systems = let e = a_is.waves_counted in omega arith in
        one_wave systems j (get_or a.waves j 0) (get_or b.waves j 0) (a_is.waves j in_range) (b_is.waves j in_range))
