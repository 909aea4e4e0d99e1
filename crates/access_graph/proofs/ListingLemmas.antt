-- The edges from a set, and the wave after it, from one system of the set to the next.
use Rattle.std.proofs.Common.{◌≡◌, ℕ, zero, suc, ◌+◌, ◌<◌, ◌≤◌, max, true, false, cond, List, [], ◌∷◌, ◌++◌, get_or, add-one, append_assoc, refl, sym, ap, ◌∙◌, inl, inr, ◌⊎◌, arith}
use Rattle.std.specs.FinSet as set
use Rattle.std.proofs.lemmas.Bool.{cases_eq, cases_lt, both_ways}
use Rattle.std.proofs.lemmas.List.{append-nil}
use Rattle.access_graph.specs.declared.edge.Edge.{Edge}
use Rattle.access_graph.specs.Building.{IsWaveAfter, edges_from}
use Rattle.access_graph.specs.Systems.{SystemSet}

module _ (sources : SystemSet) where
  -- no system of the set is from the first number on and below the second
  abbrev pub HasNoneBetween : ℕ → ℕ → Type 0
  HasNoneBetween next from = (other : ℕ) → next ≤ other → other < from → set.contains sources other ≡ false

  edges_gap : (to next from : ℕ) → next ≤ from → HasNoneBetween next from → edges_from sources to from ≡ edges_from sources to next
  edges_gap to next zero low none = let same : zero ≡ next = omega arith in ap (edges_from sources to) same
  edges_gap to next (suc from) low none = elim (cases_eq next (suc from)) [
    | inl same ↦ ap (edges_from sources to) (sym same)
    | inr apart ↦
        ap (λ b. edges_from sources to from ++ cond b (record { from = from; to = to } ∷ []) []) (none from (omega arith) (omega arith))
        ∙ append-nil (edges_from sources to from) ∙ edges_gap to next from (omega arith) (λ other above below. none other above (omega arith))
  ]

  pub edges_some : (before : List Edge) (to next from : ℕ) → next ≤ from → set.contains sources from ≡ true → HasNoneBetween next from
      → (before ++ edges_from sources to next) ++ record { from = from; to = to } ∷ [] ≡ before ++ edges_from sources to (from + 1)
  edges_some before to next from low has none =
      append_assoc before (edges_from sources to next) (record { from = from; to = to } ∷ [])
      ∙ ap (λ xs. before ++ xs)
      (ap (λ xs. xs ++ record { from = from; to = to } ∷ []) (sym (edges_gap to next from low none))
      ∙ ap (λ b. edges_from sources to from ++ cond b (record { from = from; to = to } ∷ []) []) (sym has)
      ∙ ap (edges_from sources to) (sym (add-one from)))

  pub edges_end : (before : List Edge) (to next : ℕ) → next ≤ to → HasNoneBetween next to → before ++ edges_from sources to next ≡ before ++ edges_from sources to to
  edges_end before to next low none = ap (λ xs. before ++ xs) (sym (edges_gap to next to low none))

  module _ (waves : List ℕ) where
    pub wave_none : IsWaveAfter sources waves 0 0
    wave_none = record { above = λ i low has. absurd (omega arith); least = inl refl }

    pub wave_some : (next from wave : ℕ) → next ≤ from → set.contains sources from ≡ true → HasNoneBetween next from
        → IsWaveAfter sources waves next wave → IsWaveAfter sources waves (from + 1) (max wave (get_or waves from 0 + 1))
    wave_some next from wave low has none after = record { above = above; least = least }
      where
        above : (i : ℕ) → i < from + 1 → set.contains sources i ≡ true → get_or waves i 0 < max wave (get_or waves from 0 + 1)
        above i below in_set = elim (cases_lt i next) [
          | inl old ↦ omega (arith, after.above i old in_set)
          | inr high ↦ elim (cases_eq i from) [
            | inl same ↦ let e = ap (λ x. get_or waves x 0) same in omega arith
            | inr apart ↦ absurd (both_ways _ (none i high (omega arith)) in_set)
          ]
        ]

        least : (max wave (get_or waves from 0 + 1) ≡ 0) ⊎ ((i : ℕ) × (i < from + 1) × (set.contains sources i ≡ true) × (max wave (get_or waves from 0 + 1) ≡ get_or waves i 0 + 1))
        least = elim (cases_lt (get_or waves from 0 + 1) wave) [
          | inl higher ↦ elim after.least [
            | inl nothing ↦ absurd (omega (arith, nothing))
            | inr some ↦ inr (some.0, omega (arith, some.1), some.2, omega (arith, some.3))
          ]
          | inr new ↦ inr (from, omega arith, has, omega arith)
        ]

    pub wave_end : (next to wave : ℕ) → next ≤ to → HasNoneBetween next to → IsWaveAfter sources waves next wave → IsWaveAfter sources waves to wave
    wave_end next to wave low none after = record { above = above; least = least }
      where
        above : (i : ℕ) → i < to → set.contains sources i ≡ true → get_or waves i 0 < wave
        above i below in_set = elim (cases_lt i next) [
          | inl old ↦ after.above i old in_set
          | inr high ↦ absurd (both_ways _ (none i high below) in_set)
        ]

        least : (wave ≡ 0) ⊎ ((i : ℕ) × (i < to) × (set.contains sources i ≡ true) × (wave ≡ get_or waves i 0 + 1))
        least = elim after.least [ inl nothing ↦ inl nothing | inr some ↦ inr (some.0, omega (arith, some.1), some.2, some.3) ]
