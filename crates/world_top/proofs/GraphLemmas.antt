-- The lines of systems, one by one, and the edges that lead to each.
use Rattle.std.proofs.Common.{◌≡◌, ◌≢◌, inl, inr, ℕ, zero, suc, ◌+◌, ◌≤◌, false, eqb, List, [], ◌∷◌, ◌++◌, append_assoc, length, map, take, drop, filter, slice_get, Some, cond, refl, sym, ap, subst, ◌∙◌, arith}
use Rattle.std.specs.List.{AllByRecursion}
use Rattle.std.proofs.lemmas.Bool.{eq-eqb}
use Rattle.std.proofs.lemmas.Bool.Decides.{eqb_tells}
use Rattle.std.proofs.lemmas.List.{append-nil}
use Rattle.access_graph.specs.declared.edge.Edge.{Edge}
use Rattle.access_graph.specs.Graphs.{AreOrdered, StandsBefore}
use Rattle.row_lang.specs.Systems.{System}
use Rattle.world_top.specs.Graphed.{sources, task_line, task_lines}

-- ---- the edges that are left

-- of edges in order these are left once those to the systems below a number are taken: they lead to no such system, and each other
-- system has the same sources
pub record IsRest (edges : List Edge) (number : ℕ) (rest : List Edge) : Type 0 where
  pub ordered : AreOrdered rest
  pub behind : AllByRecursion (λ edge. number ≤ edge.to) rest
  pub same : (m : ℕ) → number ≤ m → sources edges m ≡ sources rest m

all_low : (edges : List Edge) → AllByRecursion (λ (edge : Edge). 0 ≤ edge.to) edges
all_low [] = tt
all_low (edge ∷ edges) = (omega arith, all_low edges)

-- at first all are left
pub rest_of_all : (edges : List Edge) → AreOrdered edges → IsRest edges 0 edges
rest_of_all edges ordered = record { ordered = ordered; behind = all_low edges; same = λ m low. refl }

picked : (to m : ℕ) (edge : Edge) (edges : List Edge) → edge.to ≡ m → sources (edge ∷ edges) m ≡ edge.from ∷ sources edges m
picked to m edge edges is = ap (λ b. map (λ (e : Edge). e.from) (cond b (edge ∷ filter (λ (e : Edge). eqb e.to m) edges) (filter (λ (e : Edge). eqb e.to m) edges))) (eq-eqb edge.to m is)

eqb_of_others : (a b : ℕ) → a ≢ b → eqb a b ≡ false
eqb_of_others a b other = elim (eqb_tells a b) [
  | inl same ↦ absurd (other same.1)
  | inr apart ↦ apart.0
]

passed : (m : ℕ) (edge : Edge) (edges : List Edge) → edge.to ≢ m → sources (edge ∷ edges) m ≡ sources edges m
passed m edge edges other = ap (λ b. map (λ (e : Edge). e.from) (cond b (edge ∷ filter (λ (e : Edge). eqb e.to m) edges) (filter (λ (e : Edge). eqb e.to m) edges))) (eqb_of_others edge.to m other)

no_sources : (m : ℕ) (edges : List Edge) → AllByRecursion (λ (edge : Edge). suc m ≤ edge.to) edges → sources edges m ≡ []
no_sources m [] all = refl
no_sources m (edge ∷ edges) all = passed m edge edges (λ is. omega (arith, all.0, is)) ∙ no_sources m edges all.1

all_behind : (m : ℕ) (edge : Edge) (edges : List Edge) → m ≤ edge.to → AllByRecursion (StandsBefore edge) edges → AllByRecursion (λ (e : Edge). m ≤ e.to) edges
all_behind m edge [] low before = tt
all_behind m edge (next ∷ edges) low before = (
  elim before.0 [
    | inl less ↦ omega (arith, less)
    | inr same ↦ omega (arith, same.0)
  ],
  all_behind m edge edges low before.1,
)

-- the first edges are those to a system, where the next one isn't
pub record AreLeading (number : ℕ) (edges : List Edge) (count : ℕ) : Type 0 where
  pub within : count ≤ length edges
  pub each : AllByRecursion (λ (edge : Edge). edge.to ≡ number) (take count edges)
  pub end : (edge : Edge) → slice_get edges count ≡ Some edge → edge.to ≢ number

leading_sources : (number : ℕ) (edges : List Edge) (count : ℕ) → AreOrdered edges → AllByRecursion (λ (edge : Edge). number ≤ edge.to) edges → AreLeading number edges count →
    (sources edges number ≡ map (λ (edge : Edge). edge.from) (take count edges)) × AreOrdered (drop count edges) × AllByRecursion (λ (edge : Edge). suc number ≤ edge.to) (drop count edges)
    × ((m : ℕ) → suc number ≤ m → sources edges m ≡ sources (drop count edges) m)
leading_sources number [] zero ordered behind are = (refl, tt, tt, λ m low. refl)
leading_sources number [] (suc count) ordered behind are = absurd (omega (arith, are.within))
leading_sources number (edge ∷ edges) zero ordered behind are =
    let other = are.end edge refl in
    let high : suc number ≤ edge.to = omega (arith, behind.0, other) in
    let all = all_behind (suc number) edge edges high ordered.0 in
    (passed number edge edges other ∙ no_sources number edges all, ordered, (high, all), λ m low. refl)
leading_sources number (edge ∷ edges) (suc count) ordered behind are =
    let h = leading_sources number edges count ordered.1 behind.1 (record { within = omega (arith, are.within); each = are.each.1; end = are.end }) in (
      picked number number edge edges are.each.0 ∙ ap (λ xs. edge.from ∷ xs) h.0,
      h.1,
      h.2,
      λ m low. passed m edge edges (λ is. omega (arith, is, are.each.0, low)) ∙ h.3 m low,
    )

-- the leading edges are those to the next system, and the others are left
pub leading : (edges : List Edge) (number : ℕ) (rest : List Edge) (count : ℕ) → IsRest edges number rest → AreLeading number rest count →
    (sources edges number ≡ map (λ (edge : Edge). edge.from) (take count rest)) × IsRest edges (number + 1) (drop count rest)
leading edges number rest count is are =
    let h = leading_sources number rest count is.ordered is.behind are in (
      is.same number (omega arith) ∙ h.0,
      record {
        ordered = h.1;
        behind = subst (λ (k : ℕ). AllByRecursion (λ (edge : Edge). k ≤ edge.to) (drop count rest)) (omega arith) h.2;
        same = λ m low. is.same m (omega (arith, low)) ∙ h.3 m (omega (arith, low));
      },
    )

-- ---- lines

-- one line more
pub task_lines_push : (edges : List Edge) (number : ℕ) (systems : List System) (system : System) →
    task_lines edges number (systems ++ system ∷ []) ≡ task_lines edges number systems ++ task_line (number + length systems) system.name (sources edges (number + length systems))
task_lines_push edges number [] system = append-nil (task_line number system.name (sources edges number)) ∙ ap (λ n. task_line n system.name (sources edges n)) (omega arith)
task_lines_push edges number (first ∷ systems) system =
    ap (λ xs. task_line number first.name (sources edges number) ++ xs) (task_lines_push edges (suc number) systems system)
    ∙ sym (append_assoc (task_line number first.name (sources edges number)) (task_lines edges (suc number) systems) _)
    ∙ ap (λ n. task_lines edges number (first ∷ systems) ++ task_line n system.name (sources edges n)) (omega arith)

-- the lines of the first systems, and of the next one behind them
pub lines_push : (edges : List Edge) (n : ℕ) (systems more : List System) (system : System) (old before out waits : List ℕ) →
    0 + length systems ≡ n → more ≡ systems ++ system ∷ [] → before ≡ old ++ task_lines edges 0 systems → out ≡ before ++ task_line n system.name waits → sources edges n ≡ waits →
    out ≡ old ++ task_lines edges 0 more
lines_push edges n systems more system old before out waits counted is so_far written from =
    let line : task_lines edges 0 more ≡ task_lines edges 0 systems ++ task_line n system.name waits =
    ap (task_lines edges 0) is ∙ task_lines_push edges 0 systems system
    ∙ ap (λ k. task_lines edges 0 systems ++ task_line k system.name (sources edges k)) counted
    ∙ ap (λ xs. task_lines edges 0 systems ++ task_line n system.name xs) from in
    written ∙ ap (λ xs. xs ++ task_line n system.name waits) so_far
    ∙ append_assoc old (task_lines edges 0 systems) (task_line n system.name waits) ∙ ap (λ xs. old ++ xs) (sym line)
