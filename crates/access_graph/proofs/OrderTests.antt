-- The conflict order, its edges and waves as tests that compute, and that they say what the definitions say.
use Rattle.std.proofs.Common.{◌≡◌, ℕ, zero, suc, ◌+◌, ◌<◌, ◌≤◌, max, Bool, true, false, not, ◌&&◌, ◌||◌, ltb, List, length, map, fold, cond, sym, refl, ap, ◌∙◌, subst, inl, inr, arith}
use Rattle.std.specs.List.{list_any, range_with_len}
use Rattle.std.proofs.lemmas.Bool.{and_parts, and_from, or_cases, or_left, or_right, ltb-true, lt-ltb, not-true, not_from_false, true≢false, both_ways, false_from_ne_true, cases_eq}
use Rattle.world_model.specs.declared.access.Access.{Access}
use Rattle.access_graph.specs.Conflicts.{ComesBefore, Walk, IsReachable, IsEdge, systems_conflict, access_at}

-- whether i comes before j
abbrev pub comes_before : List Access → ℕ → ℕ → Bool
comes_before systems i j = ltb i j && ltb j (length systems) && systems_conflict (access_at systems i) (access_at systems j)

-- whether a walk of at most this many pairs, and at least one, leads from i to j
abbrev pub reaches : ℕ → List Access → ℕ → ℕ → Bool
reaches zero systems i j = false
reaches (suc most) systems i j =
    comes_before systems i j || list_any (λ k. comes_before systems i k && reaches most systems k j) (range_with_len 0 (length systems))

-- whether a system is reached from i and reaches j
abbrev pub has_between : List Access → ℕ → ℕ → Bool
has_between systems i j =
    list_any (λ k. reaches (length systems) systems i k && reaches (length systems) systems k j) (range_with_len 0 (length systems))

-- whether there is an edge from i to j
abbrev pub is_edge : List Access → ℕ → ℕ → Bool
is_edge systems i j = comes_before systems i j && not (has_between systems i j)

-- the edges of the longest walk to j that has at most this many
abbrev pub wave_within : ℕ → List Access → ℕ → ℕ
wave_within zero systems j = 0
wave_within (suc most) systems j =
    fold max 0 (map (λ i. cond (is_edge systems i j) (wave_within most systems i + 1) 0) (range_with_len 0 (length systems)))

-- ---- tests over a range

any_range : (t : ℕ → Bool) (from n : ℕ) → list_any t (range_with_len from n) ≡ true → (k : ℕ) × (from ≤ k) × (k < from + n) × (t k ≡ true)
any_range t from zero h = absurd (true≢false (sym h))
any_range t from (suc n) h = elim (or_cases (t from) (list_any t (range_with_len (from + 1) n)) h) [
  | inl here ↦ (from, omega arith, omega arith, here)
  | inr later ↦ let found = any_range t (from + 1) n later in (found.0, omega (arith, found.1), omega (arith, found.2), found.3)
]

range_any : (t : ℕ → Bool) (from n k : ℕ) → from ≤ k → k < from + n → t k ≡ true → list_any t (range_with_len from n) ≡ true
range_any t from zero k low high h = absurd (omega arith)
range_any t from (suc n) k low high h = elim (cases_eq k from) [
  | inl same ↦ or_left (t from) _ (ap t (sym same) ∙ h)
  | inr apart ↦ or_right (t from) _ (range_any t (from + 1) n k (omega arith) (omega arith) h)
]

-- ---- what they say

module _ (systems : List Access) where
  pub before_from_test : (i j : ℕ) → comes_before systems i j ≡ true → ComesBefore systems i j
  before_from_test i j h =
      let parts = and_parts (ltb i j && ltb j (length systems)) (systems_conflict (access_at systems i) (access_at systems j)) h in
      let order = and_parts (ltb i j) (ltb j (length systems)) parts.0 in
      record { earlier = ltb-true i j order.0; in_range = ltb-true j (length systems) order.1; conflict = parts.1 }

  pub test_from_before : (i j : ℕ) → ComesBefore systems i j → comes_before systems i j ≡ true
  test_from_before i j h = and_from _ _ (and_from _ _ (lt-ltb i j h.earlier) (lt-ltb j (length systems) h.in_range)) h.conflict

  pub reachable_from_test : (most i j : ℕ) → reaches most systems i j ≡ true → IsReachable systems i j
  reachable_from_test zero i j h = absurd (true≢false (sym h))
  reachable_from_test (suc most) i j h = elim (or_cases (comes_before systems i j) _ h) [
    | inl here ↦ (0, (j, before_from_test i j here, refl))
    | inr later ↦
        let found = any_range (λ k. comes_before systems i k && reaches most systems k j) 0 (length systems) later in
        let parts = and_parts (comes_before systems i found.0) (reaches most systems found.0 j) found.3 in
        let rest = reachable_from_test most found.0 j parts.1 in
        (suc rest.0, (found.0, before_from_test i found.0 parts.0, rest.1))
  ]

  -- a walk goes up, and so it is no longer than the systems are many
  pub walk_rises : (n i j : ℕ) → Walk (ComesBefore systems) (suc n) i j → (i + suc n ≤ j) × (j < length systems)
  walk_rises zero i j walk =
      let less : i < j = subst (λ (k : ℕ). i < k) walk.2 walk.1.earlier in
      (omega arith, subst (λ (k : ℕ). k < length systems) walk.2 walk.1.in_range)
  walk_rises (suc n) i j walk =
      let rest = walk_rises n walk.0 j walk.2 in
      let less : i < walk.0 = walk.1.earlier in
      (omega (arith, rest.0), rest.1)

  pub reach_rises : (i j : ℕ) → IsReachable systems i j → (i < j) × (j < length systems)
  reach_rises i j h = let rises = walk_rises h.0 i j h.1 in (omega (arith, rises.0), rises.1)

  test_from_walk : (n most i j : ℕ) → n < most → Walk (ComesBefore systems) (suc n) i j → reaches most systems i j ≡ true
  test_from_walk n zero i j few walk = absurd (omega arith)
  test_from_walk zero (suc most) i j few walk = or_left _ _ (ap (comes_before systems i) (sym walk.2) ∙ test_from_before i walk.0 walk.1)
  test_from_walk (suc n) (suc most) i j few walk =
      or_right (comes_before systems i j) _ (range_any (λ k. comes_before systems i k && reaches most systems k j) 0 (length systems) walk.0 (omega arith)
      (let within : walk.0 < length systems = walk.1.in_range in omega arith)
      (and_from _ _ (test_from_before i walk.0 walk.1) (test_from_walk n most walk.0 j (omega arith) walk.2)))

  pub test_from_reachable : (i j : ℕ) → IsReachable systems i j → reaches (length systems) systems i j ≡ true
  test_from_reachable i j h =
      let rises = walk_rises h.0 i j h.1 in test_from_walk h.0 (length systems) i j (omega (arith, rises.0, rises.1)) h.1

  -- a system between two, where the test finds one
  pub between_from_test : (i j : ℕ) → has_between systems i j ≡ true → (k : ℕ) × IsReachable systems i k × IsReachable systems k j
  between_from_test i j some =
      let found = any_range (λ k. reaches (length systems) systems i k && reaches (length systems) systems k j) 0 (length systems) some in
      let parts = and_parts (reaches (length systems) systems i found.0) (reaches (length systems) systems found.0 j) found.3 in
      (found.0, reachable_from_test (length systems) i found.0 parts.0, reachable_from_test (length systems) found.0 j parts.1)

  pub test_from_between : (i k j : ℕ) → IsReachable systems i k → IsReachable systems k j → has_between systems i j ≡ true
  test_from_between i k j up down =
      let within : k < length systems = (reach_rises i k up).1 in
      range_any (λ x. reaches (length systems) systems i x && reaches (length systems) systems x j) 0 (length systems) k (omega arith) (omega arith)
      (and_from _ _ (test_from_reachable i k up) (test_from_reachable k j down))

  -- a computed edge is an edge
  pub edge_from_test : (i j : ℕ) → is_edge systems i j ≡ true → IsEdge systems i j
  edge_from_test i j h =
      let parts = and_parts (comes_before systems i j) (not (has_between systems i j)) h in
      let none : has_between systems i j ≡ false = not-true _ parts.1 in
      record { before = before_from_test i j parts.0; least = λ k up down. both_ways (has_between systems i j) none (test_from_between i k j up down) }

  -- and each edge is computed
  pub test_from_edge : (i j : ℕ) → IsEdge systems i j → is_edge systems i j ≡ true
  test_from_edge i j h = and_from _ _ (test_from_before i j h.before) (not_from_false _ (false_from_ne_true _ (λ some.
      let found = between_from_test i j some in h.least found.0 found.1 found.2)))
