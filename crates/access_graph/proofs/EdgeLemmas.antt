-- Lists of edges in order.
use Rattle.std.proofs.Common.{◌≡◌, ℕ, ◌<◌, zero, suc, cond, append_assoc, true, false, ◌&&◌, ◌||◌, eqb, List, [], ◌∷◌, ◌++◌, refl, sym, ap, ◌∙◌, subst, inl, inr, arith}
use Rattle.std.specs.List.{list_any, AllByRecursion}
use Rattle.std.specs.FinSet as set
use Rattle.std.proofs.lemmas.List.{append-nil}
use Rattle.std.proofs.lemmas.List.Folds.{list_any-append}
use Rattle.std.proofs.lemmas.Bool.{cases_eq, cases_Bool, and_parts, and_from, or_cases, or_left, or_right, eqb-true, eq-eqb, true≢false}
use Rattle.access_graph.specs.declared.edge.Edge.{Edge}
use Rattle.access_graph.specs.Building.{edges_from}
use Rattle.access_graph.specs.Graphs.{has_edge, StandsBefore, AreOrdered}
use Rattle.access_graph.specs.Systems.{SystemSet}

abbrev edge_of : ℕ → ℕ → Edge
edge_of i j = record { from = i; to = j }

-- an edge is the one that it is found as
edge_is : (edge : Edge) (i j : ℕ) → (eqb edge.from i && eqb edge.to j) ≡ true → edge ≡ edge_of i j
edge_is edge i j h =
    let parts = and_parts (eqb edge.from i) (eqb edge.to j) h in
    let from_is = eqb-true edge.from i parts.0 in
    let to_is = eqb-true edge.to j parts.1 in
    (λ t. record { from = from_is t; to = to_is t })

finds : (edge : Edge) → (eqb edge.from edge.from && eqb edge.to edge.to) ≡ true
finds edge = and_from _ _ (eq-eqb edge.from edge.from refl) (eq-eqb edge.to edge.to refl)

-- what holds of every edge of a list holds of one that it has
pub every_has : (P : Edge → Type 0) (edges : List Edge) → AllByRecursion P edges → (i j : ℕ) → has_edge edges i j ≡ true → P (edge_of i j)
every_has P [] all i j has = absurd (true≢false (sym has))
every_has P (edge ∷ edges) all i j has = elim (or_cases (eqb edge.from i && eqb edge.to j) (has_edge edges i j) has) [
  | inl here ↦ subst P (edge_is edge i j here) all.0
  | inr later ↦ every_has P edges all.1 i j later
]

not_before_itself : (edge : Edge) → StandsBefore edge edge → ⊥
not_before_itself edge before = elim before [ inl less ↦ omega (arith, less) | inr same ↦ omega (arith, same.1) ]

not_both : (a b : Edge) → StandsBefore a b → StandsBefore b a → ⊥
not_both a b before after = elim before [
  | inl less ↦ elim after [ inl more ↦ omega (arith, less, more) | inr same ↦ omega (arith, less, same.0) ]
  | inr same ↦ elim after [ inl more ↦ omega (arith, same.0, more) | inr other ↦ omega (arith, same.1, other.1) ]
]

-- two lists in order with the same edges are the same
pub one_list : (edges others : List Edge) → AreOrdered edges → AreOrdered others
    → ((i j : ℕ) → has_edge edges i j ≡ true → has_edge others i j ≡ true)
    → ((i j : ℕ) → has_edge others i j ≡ true → has_edge edges i j ≡ true) → edges ≡ others
one_list [] [] a b there back = refl
one_list [] (other ∷ others) a b there back =
    absurd (true≢false (sym (back other.from other.to (or_left _ (has_edge others other.from other.to) (finds other)))))
one_list (edge ∷ edges) [] a b there back =
    absurd (true≢false (sym (there edge.from edge.to (or_left _ (has_edge edges edge.from edge.to) (finds edge)))))
one_list (edge ∷ edges) (other ∷ others) a b there back = joined (first_is) (one_list edges others a.1 b.1 there_rest back_rest)
  where
    joined : edge ≡ other → edges ≡ others → (edge ∷ edges) ≡ (other ∷ others)
    joined e f = (λ t. e t ∷ f t)

    first_is : edge ≡ other
    first_is = elim (or_cases (eqb other.from edge.from && eqb other.to edge.to) _ (there edge.from edge.to (or_left _ (has_edge edges edge.from edge.to) (finds edge)))) [
      | inl here ↦ sym (edge_is other edge.from edge.to here)
      | inr later ↦ elim (or_cases (eqb edge.from other.from && eqb edge.to other.to) _ (back other.from other.to (or_left _ (has_edge others other.from other.to) (finds other)))) [
        | inl here ↦ edge_is edge other.from other.to here
        | inr further ↦ absurd (not_both edge other
            (every_has (StandsBefore edge) edges a.0 other.from other.to further) (every_has (StandsBefore other) others b.0 edge.from edge.to later))
      ]
    ]

    there_rest : (i j : ℕ) → has_edge edges i j ≡ true → has_edge others i j ≡ true
    there_rest i j has = elim (or_cases (eqb other.from i && eqb other.to j) _ (there i j (or_right (eqb edge.from i && eqb edge.to j) _ has))) [
      | inl here ↦ absurd (not_before_itself edge (subst (StandsBefore edge) (sym (first_is ∙ edge_is other i j here)) (every_has (StandsBefore edge) edges a.0 i j has)))
      | inr later ↦ later
    ]

    back_rest : (i j : ℕ) → has_edge others i j ≡ true → has_edge edges i j ≡ true
    back_rest i j has = elim (or_cases (eqb edge.from i && eqb edge.to j) _ (back i j (or_right (eqb other.from i && eqb other.to j) _ has))) [
      | inl here ↦ absurd (not_before_itself other (subst (StandsBefore other) (sym (sym first_is ∙ edge_is edge i j here)) (every_has (StandsBefore other) others b.0 i j has)))
      | inr later ↦ later
    ]

-- ---- more edges at the end

all_from_has : (P : Edge → Type 0) (edges : List Edge) → ((i j : ℕ) → has_edge edges i j ≡ true → P (edge_of i j)) → AllByRecursion P edges
all_from_has P [] each = tt
all_from_has P (edge ∷ edges) each = (
  each edge.from edge.to (or_left _ (has_edge edges edge.from edge.to) (finds edge)),
  all_from_has P edges (λ i j has. each i j (or_right (eqb edge.from i && eqb edge.to j) _ has)),
)

all_push : (P : Edge → Type 0) (edges : List Edge) (edge : Edge) → AllByRecursion P edges → P edge → AllByRecursion P (edges ++ edge ∷ [])
all_push P [] edge all new = (new, tt)
all_push P (first ∷ edges) edge all new = (all.0, all_push P edges edge all.1 new)

ordered_push : (edges : List Edge) (edge : Edge) → AreOrdered edges → AllByRecursion (λ e. StandsBefore e edge) edges → AreOrdered (edges ++ edge ∷ [])
ordered_push [] edge ordered before = (tt, tt)
ordered_push (first ∷ edges) edge ordered before =
    (all_push (StandsBefore first) edges edge ordered.0 before.0, ordered_push edges edge ordered.1 before.1)

-- what a list has, and what one edge more makes of it
pub has_append : (edges more : List Edge) (i j : ℕ) → has_edge (edges ++ more) i j ≡ (has_edge edges i j || has_edge more i j)
has_append edges more i j = list_any-append (λ edge. eqb edge.from i && eqb edge.to j) edges more

module _ (sources : SystemSet) (to : ℕ) where
  abbrev one_at : ℕ → List Edge
  one_at n = cond (set.contains sources n) (edge_of n to ∷ []) []

  one_has : (n i j : ℕ) → has_edge (one_at n) i j ≡ true → (j ≡ to) × (i ≡ n) × (set.contains sources n ≡ true)
  one_has n i j has = elim (cases_Bool (set.contains sources n)) [
    | inl in_set ↦ elim (or_cases (eqb n i && eqb to j) false (sym (ap (λ b. has_edge (cond b (edge_of n to ∷ []) []) i j) in_set) ∙ has)) [
      | inl here ↦ let parts = and_parts (eqb n i) (eqb to j) here in (sym (eqb-true to j parts.1), sym (eqb-true n i parts.0), in_set)
      | inr nothing ↦ absurd (true≢false (sym nothing))
    ]
    | inr out ↦ absurd (true≢false (sym (sym (ap (λ b. has_edge (cond b (edge_of n to ∷ []) []) i j) out) ∙ has)))
  ]

  has_one : (n : ℕ) → set.contains sources n ≡ true → has_edge (one_at n) n to ≡ true
  has_one n in_set = ap (λ b. has_edge (cond b (edge_of n to ∷ []) []) n to) in_set ∙ or_left (eqb n n && eqb to to) false (finds (edge_of n to))

  -- the edges from a set are those from each of its systems
  pub from_has : (n i j : ℕ) → has_edge (edges_from sources to n) i j ≡ true → (j ≡ to) × (i < n) × (set.contains sources i ≡ true)
  from_has zero i j has = absurd (true≢false (sym has))
  from_has (suc n) i j has = elim (or_cases (has_edge (edges_from sources to n) i j) (has_edge (one_at n) i j) (sym (has_append (edges_from sources to n) (one_at n) i j) ∙ has)) [
    | inl old ↦ let h = from_has n i j old in (h.0, omega (arith, h.1), h.2)
    | inr new ↦ let h = one_has n i j new in (h.0, omega (arith, h.1), subst (λ (x : ℕ). set.contains sources x ≡ true) (sym h.1) h.2)
  ]

  pub has_from : (n i : ℕ) → i < n → set.contains sources i ≡ true → has_edge (edges_from sources to n) i to ≡ true
  has_from zero i low in_set = absurd (omega arith)
  has_from (suc n) i low in_set = has_append (edges_from sources to n) (one_at n) i to ∙ elim (cases_eq i n) [
    | inl same ↦ or_right (has_edge (edges_from sources to n) i to) _
        (subst (λ (x : ℕ). has_edge (one_at n) x to ≡ true) (sym same) (has_one n (subst (λ (x : ℕ). set.contains sources x ≡ true) same in_set)))
    | inr apart ↦ or_left _ (has_edge (one_at n) i to) (has_from n i (omega arith) in_set)
  ]

  -- and stand in order after edges that lead to smaller systems
  pub ordered_from : (edges : List Edge) → AreOrdered edges → ((i j : ℕ) → has_edge edges i j ≡ true → j < to) → (n : ℕ) → AreOrdered (edges ++ edges_from sources to n)
  ordered_from edges ordered low zero = subst AreOrdered (sym (append-nil edges)) ordered
  ordered_from edges ordered low (suc n) = elim (cases_Bool (set.contains sources n)) [
    | inl in_set ↦ subst AreOrdered (with_one in_set) (ordered_push (edges ++ edges_from sources to n) (edge_of n to) (ordered_from edges ordered low n) (all_from_has (λ e. StandsBefore e (edge_of n to)) (edges ++ edges_from sources to n) before))
    | inr out ↦ subst AreOrdered (without out) (ordered_from edges ordered low n)
  ]
    where
      with_one : set.contains sources n ≡ true → (edges ++ edges_from sources to n) ++ edge_of n to ∷ [] ≡ edges ++ edges_from sources to (suc n)
      with_one in_set = append_assoc edges (edges_from sources to n) (edge_of n to ∷ []) ∙ ap (λ b. edges ++ (edges_from sources to n ++ cond b (edge_of n to ∷ []) [])) (sym in_set)

      without : set.contains sources n ≡ false → edges ++ edges_from sources to n ≡ edges ++ edges_from sources to (suc n)
      without out = ap (λ xs. edges ++ xs) (sym (append-nil (edges_from sources to n))) ∙ ap (λ b. edges ++ (edges_from sources to n ++ cond b (edge_of n to ∷ []) [])) (sym out)

      before : (i j : ℕ) → has_edge (edges ++ edges_from sources to n) i j ≡ true → StandsBefore (edge_of i j) (edge_of n to)
      before i j has = elim (or_cases (has_edge edges i j) _ (sym (has_append edges (edges_from sources to n) i j) ∙ has)) [
        | inl old ↦ inl (low i j old)
        | inr new ↦ let h = from_has n i j new in inr (h.0, h.1)
      ]

-- ---- edges to a system

pub some_to : (edges : List Edge) (i j : ℕ) → has_edge edges i j ≡ true → list_any (λ edge. eqb edge.to j) edges ≡ true
some_to [] i j has = absurd (true≢false (sym has))
some_to (edge ∷ edges) i j has = elim (or_cases (eqb edge.from i && eqb edge.to j) (has_edge edges i j) has) [
  | inl here ↦ or_left (eqb edge.to j) _ (and_parts (eqb edge.from i) (eqb edge.to j) here).1
  | inr later ↦ or_right (eqb edge.to j) _ (some_to edges i j later)
]

pub one_to : (edges : List Edge) (j : ℕ) → list_any (λ edge. eqb edge.to j) edges ≡ true → (i : ℕ) × (has_edge edges i j ≡ true)
one_to [] j some = absurd (true≢false (sym some))
one_to (edge ∷ edges) j some = elim (or_cases (eqb edge.to j) (list_any (λ edge. eqb edge.to j) edges) some) [
  | inl here ↦ (edge.from, or_left (eqb edge.from edge.from && eqb edge.to j) _ (and_from (eqb edge.from edge.from) (eqb edge.to j) (eq-eqb edge.from edge.from refl) here))
  | inr later ↦ let rest = one_to edges j later in (rest.0, or_right (eqb edge.from rest.0 && eqb edge.to j) _ rest.1)
]
