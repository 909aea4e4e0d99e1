-- What is built of the first systems, with one system more.
use Rattle.std.proofs.Common.{◌≡◌, ◌↔◌, ℕ, zero, suc, ◌+◌, ◌<◌, ◌≤◌, true, false, not, List, [], ◌∷◌, ◌++◌, length, get_or, refl, sym, ap, ◌∙◌, subst, inl, inr, ◌⊎◌, arith}
use Rattle.std.specs.FinSet as set
use Rattle.std.specs.Cmp.{nat_cmp_total}
use Rattle.std.proofs.lemmas.Bool.{cases_eq, both_ways, and_parts, and_from, or_cases, or_left, or_right, not-true, not_from_false, false_from_ne_true, false≢true}
use Rattle.std.proofs.Math.Seq.{get_or-append_seam}
use Rattle.std.proofs.lemmas.List.{get_or_append_left, length_push}
use Rattle.world_model.specs.declared.access.Access.{Access}
use Rattle.access_graph.specs.declared.edge.Edge.{Edge}
use Rattle.access_graph.specs.Building.{IsImplied, IsWaveAfter, IsBuilt, AreEdgesBelow, edges_from}
use Rattle.access_graph.specs.Conflicts.{ComesBefore, Walk, IsReachable, IsEdge, IsWave}
use Rattle.access_graph.specs.Graphs.{set_at, has_edge}
use Rattle.access_graph.specs.Systems.{SystemSet}
use Rattle.access_graph.proofs.EdgeLemmas.{has_append, from_has, has_from, ordered_from}
use Rattle.access_graph.proofs.WalkLemmas.{walk_join, walk_last, reach_step, reach_join}

module _ (systems : List Access) (n : ℕ) (reached : List SystemSet)
    (reached_are : (j : ℕ) → j < n → (i : ℕ) → (set.contains (set_at reached j) i ≡ true) ↔ IsReachable systems i j)
    (preds implied : SystemSet) (preds_are : (i : ℕ) → (set.contains preds i ≡ true) ↔ ComesBefore systems i n)
    (implied_are : (i : ℕ) → (set.contains implied i ≡ true) ↔ IsImplied systems reached n n i) where
  -- the system before the last one of a walk to n
  last_before : (i : ℕ) → IsReachable systems i n → (k : ℕ) × ((i ≡ k) ⊎ IsReachable systems i k) × ComesBefore systems k n
  last_before i reach = go reach.0 reach.1
    where
      go : (m : ℕ) → Walk (ComesBefore systems) (suc m) i n → (k : ℕ) × ((i ≡ k) ⊎ IsReachable systems i k) × ComesBefore systems k n
      go zero walk = let last = walk_last (ComesBefore systems) zero i n walk in (last.0, inl last.1, last.2)
      go (suc m) walk = let last = walk_last (ComesBefore systems) (suc m) i n walk in (last.0, inr (m, last.1), last.2)

  implied_reach : (i k : ℕ) → IsReachable systems i k → ComesBefore systems k n → set.contains implied i ≡ true
  implied_reach i k reach before = (implied_are i).1 (k, before.earlier, before, (reached_are k before.earlier i).1 reach)

  reach_implied : (i : ℕ) → set.contains implied i ≡ true → (k : ℕ) × IsReachable systems i k × ComesBefore systems k n
  reach_implied i has = let h = (implied_are i).0 has in (h.0, (reached_are h.0 h.1 i).0 h.3, h.2)

  pub reached_now : (i : ℕ) → (set.contains (set.union preds implied) i ≡ true) ↔ IsReachable systems i n
  reached_now i = (there, back)
    where
      there : set.contains (set.union preds implied) i ≡ true → IsReachable systems i n
      there has = elim (or_cases (set.contains preds i) (set.contains implied i) (sym (set.contains-union nat_cmp_total preds implied i) ∙ has)) [
        | inl now ↦ reach_step (ComesBefore systems) i n ((preds_are i).0 now)
        | inr old ↦ let h = reach_implied i old in reach_join (ComesBefore systems) i h.0 n h.1 (reach_step (ComesBefore systems) h.0 n h.2)
      ]

      back : IsReachable systems i n → set.contains (set.union preds implied) i ≡ true
      back reach =
          let last = last_before i reach in
          set.contains-union nat_cmp_total preds implied i ∙ elim last.1 [
            | inl same ↦ or_left (set.contains preds i) (set.contains implied i) ((preds_are i).1 (subst (λ (x : ℕ). ComesBefore systems x n) (sym same) last.2))
            | inr further ↦ or_right (set.contains preds i) (set.contains implied i) (implied_reach i last.0 further last.2)
          ]

  -- those of preds that aren't implied have edges to n
  pub sources_now : (i : ℕ) → (set.contains (set.difference preds implied) i ≡ true) ↔ IsEdge systems i n
  sources_now i = (there, back)
    where
      there : set.contains (set.difference preds implied) i ≡ true → IsEdge systems i n
      there has =
          let parts = and_parts (set.contains preds i) (not (set.contains implied i)) (sym (set.contains-difference nat_cmp_total preds implied i) ∙ has) in
          let out : set.contains implied i ≡ false = not-true (set.contains implied i) parts.1 in
          record {
            before = (preds_are i).0 parts.0;
            least = λ k up down.
                let last = last_before k down in
                let on : IsReachable systems i last.0 = elim last.1 [
                  | inl same ↦ subst (λ (x : ℕ). IsReachable systems i x) same up
                  | inr further ↦ reach_join (ComesBefore systems) i k last.0 up further
                ] in
                both_ways (set.contains implied i) out (implied_reach i last.0 on last.2);
          }

      back : IsEdge systems i n → set.contains (set.difference preds implied) i ≡ true
      back edge = set.contains-difference nat_cmp_total preds implied i ∙ and_from (set.contains preds i) (not (set.contains implied i)) ((preds_are i).1 edge.before)
          (not_from_false (set.contains implied i) (false_from_ne_true (set.contains implied i) (λ has.
          let h = reach_implied i has in edge.least h.0 h.1 (reach_step (ComesBefore systems) h.0 n h.2))))

-- the wave of a system, from those of the systems from which edges lead to it
module _ (systems : List Access) (n : ℕ) (sources : SystemSet) (waves : List ℕ)
    (sources_are : (i : ℕ) → (set.contains sources i ≡ true) ↔ IsEdge systems i n)
    (waves_are : (j : ℕ) → j < n → IsWave systems j (get_or waves j 0)) where
  pub wave_now : (wave : ℕ) → IsWaveAfter sources waves n wave → IsWave systems n wave
  wave_now wave after = record { walk = walk; longest = longest }
    where
      walk : (i : ℕ) × Walk (IsEdge systems) wave i n
      walk = elim after.least [
        | inl none ↦ (n, subst (λ (w : ℕ). Walk (IsEdge systems) w n n) (sym none) refl)
        | inr some ↦
            let edge = (sources_are some.0).0 some.2 in
            let before = (waves_are some.0 some.1).walk in
            (before.0, walk_join (IsEdge systems) (get_or waves some.0 0) 1 wave before.0 some.0 n (sym some.3) before.1 (n, edge, refl))
      ]

      longest : (i k : ℕ) → Walk (IsEdge systems) k i n → k ≤ wave
      longest i zero along = omega arith
      longest i (suc k) along =
          let last = walk_last (IsEdge systems) k i n along in
          let low : last.0 < n = last.2.before.earlier in
          let less = after.above last.0 low ((sources_are last.0).1 last.2) in
          let most = (waves_are last.0 low).longest i k last.1 in
          omega (arith, less, most)

-- ---- all together

at_old : {X : Type 0} (xs : List X) (x d : X) (j : ℕ) → j < length xs → get_or (xs ++ x ∷ []) j d ≡ get_or xs j d
at_old xs x d j low = get_or_append_left xs (x ∷ []) d j low

-- what holds of each of the first elements, and of one more
each_more : {X : Type 0} (P : ℕ → X → Type 0) (n : ℕ) (xs : List X) (x d : X) → length xs ≡ n
    → ((j : ℕ) → j < n → P j (get_or xs j d)) → P n x → (j : ℕ) → j < n + 1 → P j (get_or (xs ++ x ∷ []) j d)
each_more P n xs x d counted each new j low = elim (cases_eq j n) [
  | inl same ↦ subst (λ (k : ℕ). P k (get_or (xs ++ x ∷ []) k d)) (sym same)
      (subst (P n) (sym (ap (λ k. get_or (xs ++ x ∷ []) k d) (sym counted) ∙ get_or-append_seam xs x [] d)) new)
  | inr apart ↦ subst (P j) (sym (at_old xs x d j (omega arith))) (each j (omega arith))
]

pub edges_more : (systems : List Access) (n : ℕ) (edges : List Edge) (sources : SystemSet) → ((i : ℕ) → (set.contains sources i ≡ true) ↔ IsEdge systems i n)
    → AreEdgesBelow systems n edges → AreEdgesBelow systems (n + 1) (edges ++ edges_from sources n n)
edges_more systems n edges sources sources_are are = record { each = λ i j. (there i j, back i j); ordered = ordered_from sources n edges are.ordered (λ i j has. ((are.each i j).0 has).0) n }
  where
    there : (i j : ℕ) → has_edge (edges ++ edges_from sources n n) i j ≡ true → (j < n + 1) × IsEdge systems i j
    there i j has = elim (or_cases (has_edge edges i j) _ (sym (has_append edges (edges_from sources n n) i j) ∙ has)) [
      | inl old ↦ let h = (are.each i j).0 old in (omega (arith, h.0), h.1)
      | inr new ↦ let h = from_has sources n n i j new in (omega (arith, h.0), subst (λ (x : ℕ). IsEdge systems i x) (sym h.0) ((sources_are i).0 h.2))
    ]

    back : (i j : ℕ) → (j < n + 1) × IsEdge systems i j → has_edge (edges ++ edges_from sources n n) i j ≡ true
    back i j h = has_append edges (edges_from sources n n) i j ∙ elim (cases_eq j n) [
      | inl same ↦
          let edge : IsEdge systems i n = subst (λ (x : ℕ). IsEdge systems i x) same h.1 in
          or_right (has_edge edges i j) _ (subst (λ (x : ℕ). has_edge (edges_from sources n n) i x ≡ true) (sym same) (has_from sources n n i edge.before.earlier ((sources_are i).1 edge)))
      | inr apart ↦ or_left (has_edge edges i j) _ ((are.each i j).1 (omega (arith, h.0), h.1))
    ]

pub built_none : (systems : List Access) → IsBuilt systems 0 [] [] [] []
built_none systems = record {
  within = omega arith;
  preds_counted = refl;
  reached_counted = refl;
  waves_counted = refl;
  preds_are = λ j low. absurd (omega arith);
  reached_are = λ j low. absurd (omega arith);
  waves_are = λ j low. absurd (omega arith);
  low = λ j low. absurd (omega arith);
  edges_are = record { each = λ i j. ((λ has. absurd (false≢true has)), (λ h. absurd (omega (arith, h.0)))); ordered = tt };
}

pub built_more : (systems : List Access) (n : ℕ) (preds reached : List SystemSet) (waves : List ℕ) (edges : List Edge) (now implied : SystemSet) (wave : ℕ)
    → IsBuilt systems n preds reached waves edges → n < length systems
    → ((i : ℕ) → (set.contains now i ≡ true) ↔ ComesBefore systems i n)
    → ((i : ℕ) → (set.contains implied i ≡ true) ↔ IsImplied systems reached n n i)
    → IsWaveAfter (set.difference now implied) waves n wave → wave ≤ n
    → IsBuilt systems (n + 1) (preds ++ now ∷ []) (reached ++ set.union now implied ∷ []) (waves ++ wave ∷ []) (edges ++ edges_from (set.difference now implied) n n)
built_more systems n preds reached waves edges now implied wave built more now_are implied_are after low =
    let sources = sources_now systems n reached built.reached_are now implied now_are implied_are in
    record {
      within = omega arith;
      preds_counted = length_push preds now ∙ ap (λ k. k + 1) built.preds_counted;
      reached_counted = length_push reached (set.union now implied) ∙ ap (λ k. k + 1) built.reached_counted;
      waves_counted = length_push waves wave ∙ ap (λ k. k + 1) built.waves_counted;
      preds_are = each_more (λ j s. (i : ℕ) → (set.contains s i ≡ true) ↔ ComesBefore systems i j) n preds now set.empty built.preds_counted built.preds_are now_are;
      reached_are = each_more (λ j s. (i : ℕ) → (set.contains s i ≡ true) ↔ IsReachable systems i j) n reached (set.union now implied) set.empty built.reached_counted built.reached_are
          (reached_now systems n reached built.reached_are now implied now_are implied_are);
      waves_are = each_more (λ j w. IsWave systems j w) n waves wave 0 built.waves_counted built.waves_are
          (wave_now systems n (set.difference now implied) waves sources built.waves_are wave after);
      low = each_more (λ j w. w ≤ j) n waves wave 0 built.waves_counted built.low low;
      edges_are = edges_more systems n edges (set.difference now implied) sources built.edges_are;
    }
