-- The edges keep the conflict order, none of them can be left out, and waves rise along it.
use Rattle.std.proofs.Common.{◌≡◌, ◌≢◌, ℕ, zero, suc, ◌+◌, ◌<◌, ◌≤◌, Bool, true, false, ◌||◌, List, length, refl, ◌∙◌, subst, inl, inr, ◌⊎◌, arith}
use Rattle.std.specs.List.{list_any}
use Rattle.std.proofs.lemmas.Bool.{cases_Bool, cases_order, false_from_ne_true}
use Rattle.world_model.specs.declared.access.Access.{Access}
use Rattle.world_model.specs.Frames.{system_pools}
use Rattle.world_model.specs.Groups.{has_pool}
use Rattle.access_graph.specs.Conflicts.{ComesBefore, Walk, Reaches, IsReachable, IsEdge, IsOtherEdge, IsTopLevel, IsWave, access_at, systems_conflict}
use Rattle.access_graph.proofs.WalkLemmas.{walk_join, walk_last, reach_step, reach_join, reach_as, reach_through}
use Rattle.access_graph.proofs.OrderTests.{has_between, between_from_test, test_from_between, reach_rises}
use Rattle.std.proofs.lemmas.Bool.{both_ways}

or_swapped : (a b : Bool) → (a || b) ≡ (b || a)
or_swapped true true = refl
or_swapped true false = refl
or_swapped false true = refl
or_swapped false false = refl

pub conflict_mutual : (a b : Access) → systems_conflict a b ≡ systems_conflict b a
conflict_mutual a b = or_swapped (list_any (has_pool (system_pools b)) a.write) (list_any (has_pool (system_pools a)) b.write)

module _ (systems : List Access) where
  -- two different systems that conflict, in one order or the other
  pub conflict_orders : (i j : ℕ) → i < length systems → j < length systems → i ≢ j
      → systems_conflict (access_at systems i) (access_at systems j) ≡ true → (i < j × ComesBefore systems i j) ⊎ (j < i × ComesBefore systems j i)
  conflict_orders i j i_in j_in apart conflict = elim (cases_order i j) [
    | inl same ↦ absurd (apart same)
    | inr order ↦ elim order [
      | inl less ↦ inl (less, record { earlier = less; in_range = j_in; conflict = conflict })
      | inr more ↦ inr (more, record { earlier = more; in_range = i_in; conflict = conflict_mutual (access_at systems j) (access_at systems i) ∙ conflict })
    ]
  ]

  -- ---- edges

  -- what is reached with no system between comes before
  direct : (n i j : ℕ) → has_between systems i j ≡ false → Walk (ComesBefore systems) (suc n) i j → ComesBefore systems i j
  direct zero i j none walk = subst (λ (k : ℕ). ComesBefore systems i k) walk.2 walk.1
  direct (suc n) i j none walk =
      absurd (both_ways (has_between systems i j) none (test_from_between systems i walk.0 j (reach_step (ComesBefore systems) i walk.0 walk.1) (n, walk.2)))

  edge_from_none : (i j : ℕ) → has_between systems i j ≡ false → IsReachable systems i j → IsEdge systems i j
  edge_from_none i j none reach = record {
    before = direct reach.0 i j none reach.1;
    least = λ k up down. both_ways (has_between systems i j) none (test_from_between systems i k j up down);
  }

  by_edges : (far i j : ℕ) → j ≤ i + far → IsReachable systems i j → Reaches (IsEdge systems) i j
  by_edges zero i j near reach = absurd (omega (arith, (reach_rises systems i j reach).0))
  by_edges (suc far) i j near reach = elim (cases_Bool (has_between systems i j)) [
    | inl some ↦
        let found = between_from_test systems i j some in
        let up = reach_rises systems i found.0 found.1 in
        let down = reach_rises systems found.0 j found.2 in
        reach_join (IsEdge systems) i found.0 j (by_edges far i found.0 (omega (arith, up.0, down.0)) found.1) (by_edges far found.0 j (omega (arith, up.0, down.0)) found.2)
    | inr none ↦ reach_step (IsEdge systems) i j (edge_from_none i j none reach)
  ]

  -- what is reached in the conflict order is reached along edges, and the other way round
  pub reached_by_edges : (i j : ℕ) → IsReachable systems i j → Reaches (IsEdge systems) i j
  reached_by_edges i j reach = by_edges j i j (omega arith) reach

  pub edges_reach : (i j : ℕ) → Reaches (IsEdge systems) i j → IsReachable systems i j
  edges_reach i j reach = reach_as (IsEdge systems) (ComesBefore systems) (λ a b edge. edge.before) i j reach

  pub top_waits_for_none : (i j : ℕ) → IsTopLevel systems j → ComesBefore systems i j → ⊥
  top_waits_for_none i j top before =
      let reach = reached_by_edges i j (reach_step (ComesBefore systems) i j before) in
      let last = walk_last (IsEdge systems) reach.0 i j reach.1 in
      top last.0 last.2

  -- without an edge its end isn't reached from its start
  edge_lost_along : (i j n : ℕ) → IsEdge systems i j → Walk (IsOtherEdge systems i j) (suc n) i j → ⊥
  edge_lost_along i j zero edge walk = walk.1.1 (refl, walk.2)
  edge_lost_along i j (suc n) edge walk =
      edge.least walk.0 (reach_step (ComesBefore systems) i walk.0 walk.1.0.before)
      (reach_as (IsOtherEdge systems i j) (ComesBefore systems) (λ a b other. other.0.before) walk.0 j (n, walk.2))

  pub edge_lost : (i j : ℕ) → IsEdge systems i j → Reaches (IsOtherEdge systems i j) i j → ⊥
  edge_lost i j edge reach = edge_lost_along i j reach.0 edge reach.1

  -- an edge is among any pairs that keep the order
  module _ (pairs : ℕ → ℕ → Bool) (within : (i j : ℕ) → pairs i j ≡ true → IsReachable systems i j) where
    abbrev IsPair : ℕ → ℕ → Type 0
    IsPair a b = pairs a b ≡ true

    among_along : (i j n : ℕ) → IsEdge systems i j → Walk IsPair (suc n) i j → pairs i j ≡ true
    among_along i j zero edge walk = subst (λ (k : ℕ). pairs i k ≡ true) walk.2 walk.1
    among_along i j (suc n) edge walk =
        absurd (edge.least walk.0 (within i walk.0 walk.1) (reach_through IsPair (ComesBefore systems) within n walk.0 j walk.2))

    pub edge_among : ((i j : ℕ) → IsReachable systems i j → Reaches IsPair i j) → (i j : ℕ) → IsEdge systems i j → pairs i j ≡ true
    edge_among keeps i j edge =
        let reach = keeps i j (reach_step (ComesBefore systems) i j edge.before) in among_along i j reach.0 edge reach.1

  -- ---- waves

  pub wave_above : (i j before wave : ℕ) → IsReachable systems i j → IsWave systems i before → IsWave systems j wave → before < wave
  wave_above i j before wave reach lower upper =
      let along = reached_by_edges i j reach in
      let long = upper.longest lower.walk.0 (before + suc along.0) (walk_join (IsEdge systems) before (suc along.0) (before + suc along.0) lower.walk.0 i j refl lower.walk.1 along.1) in
      omega (arith, long)

  pub wave_apart : (i j wave : ℕ) → i < length systems → j < length systems → i ≢ j → IsWave systems i wave → IsWave systems j wave
      → systems_conflict (access_at systems i) (access_at systems j) ≡ false
  wave_apart i j wave i_in j_in apart at_i at_j = false_from_ne_true _ (λ conflict. elim (conflict_orders i j i_in j_in apart conflict) [
    | inl order ↦ absurd (omega (arith, wave_above i j wave wave (reach_step (ComesBefore systems) i j order.1) at_i at_j))
    | inr order ↦ absurd (omega (arith, wave_above j i wave wave (reach_step (ComesBefore systems) j i order.1) at_j at_i))
  ])

  pub one_wave : (j wave other : ℕ) → IsWave systems j wave → IsWave systems j other → wave ≡ other
  one_wave j wave other a b =
      let low = b.longest a.walk.0 wave a.walk.1 in
      let high = a.longest b.walk.0 other b.walk.1 in
      omega (arith, low, high)
