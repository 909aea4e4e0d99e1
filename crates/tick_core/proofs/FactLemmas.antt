-- What holds in every state that has the facts.
use Rattle.std.proofs.Common.{◌≡◌, ◌⊎◌, inl, inr, ℕ, zero, suc, ◌+◌, ◌<◌, ◌≤◌, Bool, true, false, ◌&&◌, ◌||◌, cond, eqb, List, [], ◌∷◌, length, take, get_or, refl, sym, ap, ap₂, ◌∙◌, arith, eq-eqb, take_all, le_refl}
use Rattle.std.specs.FinSet as set
use Rattle.std.proofs.lemmas.Bool.{cases_eq, eqb-true, false≢true, both_ways, false_from_ne_true, or_right}
use Rattle.std.proofs.lemmas.List.Sums.{sum_by-cons}
use Rattle.world_model.specs.declared.access.Access.{Access}
use Rattle.world_model.specs.Frames.{system_pools}
use Rattle.world_model.specs.Groups.{has_pool}
use Rattle.access_graph.specs.Conflicts.{access_at, need, writers}
use Rattle.tick_core.specs.declared.step.Step.{Step}
use Rattle.tick_core.specs.declared.step.Step.TheVariants.{Claim, Take, Leave, Put, Finish}
use Rattle.tick_core.specs.Facts.{HasFacts, given_count}
use Rattle.tick_core.specs.Schedules.{IsFinished}
use Rattle.tick_core.specs.States.{CoreState, SystemState, are_conflicting, has_given, has_taken, idle, is_claimed, is_done, names, version_at, writes}
use Rattle.tick_core.specs.Steps.{CanStep, CanTake, Holds}
use Rattle.tick_core.proofs.ConflictLemmas.{writer_conflicts, written_conflicts, written_named}

-- ---- versions

one_if-false : (w g : Bool) → (w ≡ true → g ≡ false) → ◌≡◌ {A = ℕ} (cond (w && g) 1 0) 0
one_if-false true true h = absurd (false≢true (sym (h refl)))
one_if-false true false h = refl
one_if-false false g h = refl

one_if-true : (w g : Bool) → (w ≡ true → g ≡ true) → ◌≡◌ {A = ℕ} (cond (w && g) 1 0) (cond w 1 0)
one_if-true true true h = refl
one_if-true true false h = absurd (false≢true (h refl))
one_if-true false g h = refl

-- where no writer has given a pool back, the count is 0
pub none_given : (accesses : List Access) (systems : List SystemState) (pool : ℕ)
    → ((k : ℕ) → has_pool (access_at accesses k).write pool ≡ true → set.contains (get_or systems k idle).given pool ≡ false) → given_count accesses systems pool ≡ 0
none_given [] systems pool not = refl
none_given (a ∷ accesses) [] pool not = refl
none_given (a ∷ accesses) (p ∷ systems) pool not =
    ap₂ (λ m n. m + n) (one_if-false (has_pool a.write pool) (set.contains p.given pool) (not 0)) (none_given accesses systems pool (λ k w. not (suc k) w))

-- where just the writers before a place have given a pool back, they are as many as are needed there
pub just_before : (accesses : List Access) (systems : List SystemState) (pool i : ℕ) → length systems ≡ length accesses
    → ((k : ℕ) → k < i → has_pool (access_at accesses k).write pool ≡ true → set.contains (get_or systems k idle).given pool ≡ true)
    → ((k : ℕ) → i ≤ k → has_pool (access_at accesses k).write pool ≡ true → set.contains (get_or systems k idle).given pool ≡ false)
    → given_count accesses systems pool ≡ need accesses i pool
just_before accesses systems pool zero each before later = none_given accesses systems pool (λ k w. later k (omega arith) w)
just_before [] [] pool (suc i) each before later = refl
just_before [] (p ∷ systems) pool (suc i) each before later = refl
just_before (a ∷ accesses) [] pool (suc i) each before later = absurd (omega (arith, each))
just_before (a ∷ accesses) (p ∷ systems) pool (suc i) each before later =
    ap₂ (λ m n. m + n) (one_if-true (has_pool a.write pool) (set.contains p.given pool) (before 0 (omega arith)))
    (just_before accesses systems pool i (omega (arith, each)) (λ k low w. before (suc k) (omega (arith, low)) w) (λ k high w. later (suc k) (omega (arith, high)) w))
    ∙ sym (sum_by-cons (λ (access : Access). cond (has_pool access.write pool) 1 0) a (take i accesses))

-- no more than the systems
pub given_count-le : (accesses : List Access) (systems : List SystemState) (pool : ℕ) → given_count accesses systems pool ≤ length systems
given_count-le [] systems pool = omega arith
given_count-le (a ∷ accesses) [] pool = omega arith
given_count-le (a ∷ accesses) (p ∷ systems) pool = more (has_pool a.write pool && set.contains p.given pool) (given_count-le accesses systems pool)
  where
    more : (b : Bool) → given_count accesses systems pool ≤ length systems → cond b 1 0 + given_count accesses systems pool ≤ suc (length systems)
    more true h = omega (arith, h)
    more false h = omega (arith, h)

-- ---- a pool that can be taken

true_from_ne_false : (b : Bool) → (b ≡ false → ⊥) → b ≡ true
true_from_ne_false true never = refl
true_from_ne_false false never = absurd (never refl)

module _ (state : CoreState) (facts : HasFacts state) (i pool : ℕ) (can : CanTake state i pool) where
  -- a later system that conflicts wasn't claimed, and has taken nothing
  later_nothing : (k : ℕ) → i < k → are_conflicting state i k ≡ true → has_taken state k pool ≡ false
  later_nothing k late conflict =
      facts.unclaimed k pool (false_from_ne_true (is_claimed state k) (λ claimed. both_ways (is_done state i) can.not_done (facts.earlier_done i k late conflict claimed)))

  -- what wasn't taken wasn't given back
  kept : (k : ℕ) → has_taken state k pool ≡ false → has_given state k pool ≡ false
  kept k not_taken = false_from_ne_true (has_given state k pool) (λ given. both_ways (has_taken state k pool) not_taken (facts.given_taken k pool given))

  pub at_need : version_at state pool ≡ need state.accesses i pool
  at_need = facts.versions pool ∙ just_before state.accesses state.systems pool i facts.counted
      (λ k low w. facts.done_given k pool (facts.earlier_done k i low (writer_conflicts (access_at state.accesses k) (access_at state.accesses i) pool w can.own) can.claimed)
      (written_named (access_at state.accesses k) pool w))
      (λ k high w. kept k (elim (cases_eq k i) [
        | inl same ↦ ap (λ n. has_taken state n pool) same ∙ can.not_taken
        | inr apart ↦ later_nothing k (omega (arith, high)) (written_conflicts (access_at state.accesses i) (access_at state.accesses k) pool w can.own)
      ]))

-- ---- some step can be taken

-- a pool of a list at which a test fails
abbrev Fails : (ℕ → Bool) → List ℕ → Type 0
Fails f list = (n : ℕ) × (has_pool list n ≡ true) × (f n ≡ false)

-- a test passes at each pool of a list
abbrev Passes : (ℕ → Bool) → List ℕ → Type 0
Passes f list = (n : ℕ) → has_pool list n ≡ true → f n ≡ true

fails : (f : ℕ → Bool) (list : List ℕ) → Passes f list ⊎ Fails f list
fails f [] = inl (λ n named. absurd (false≢true named))
fails f (x ∷ list) = by (f x) refl (fails f list)
  where
    more : (n : ℕ) (b : Bool) → eqb x n ≡ b → f x ≡ true → Passes f list → (b || has_pool list n) ≡ true → f n ≡ true
    more n true e passes rest named = ap f (sym (eqb-true x n e)) ∙ passes
    more n false e passes rest named = rest n named

    by : (b : Bool) → f x ≡ b → Passes f list ⊎ Fails f list → Passes f (x ∷ list) ⊎ Fails f (x ∷ list)
    by false e rest = inr (x, ap (λ b. b || has_pool list x) (eq-eqb x x refl), e)
    by true e (inl all) = inl (λ n named. more n (eqb x n) refl e all named)
    by true e (inr found) = inr (found.0, or_right (eqb x found.0) (has_pool list found.0) found.1, found.2)

-- the least number below this one at which a test fails
abbrev LeastFail : (ℕ → Bool) → ℕ → Type 0
LeastFail f n = (i : ℕ) × (i < n) × (f i ≡ false) × ((k : ℕ) → k < i → f k ≡ true)

least : (f : ℕ → Bool) (n : ℕ) → ((k : ℕ) → k < n → f k ≡ true) ⊎ LeastFail f n
least f zero = inl (λ k low. absurd (omega (arith, low)))
least f (suc n) = by (f n) refl (least f n)
  where
    by : (b : Bool) → f n ≡ b → ((k : ℕ) → k < n → f k ≡ true) ⊎ LeastFail f n → ((k : ℕ) → k < suc n → f k ≡ true) ⊎ LeastFail f (suc n)
    by b e (inr found) = inr (found.0, omega (arith, found.1), found.2, found.3)
    by false e (inl all) = inr (n, omega arith, e, all)
    by true e (inl all) = inl (λ k low. elim (cases_eq k n) [
      | inl same ↦ ap f same ∙ e
      | inr apart ↦ all k (omega (arith, low))
    ])

-- the least system that isn't done has a step
module _ (state : CoreState) (i : ℕ) (there : i < length state.systems) (not_done : is_done state i ≡ false) (before : (k : ℕ) → k < i → is_done state k ≡ true) where
  give : (pool : ℕ) → ((other : ℕ) → names state i other ≡ true → has_taken state i other ≡ true) → Holds state i pool → (b : Bool) → writes state i pool ≡ b → (step : Step) × CanStep state step
  give pool all holds true w = (Put i pool, (record { there = there; all_taken = all; holds = holds }, w))
  give pool all holds false w = (Leave i pool, (record { there = there; all_taken = all; holds = holds }, w))

  pub step_of_least : (b : Bool) → is_claimed state i ≡ b → (step : Step) × CanStep state step
  step_of_least false unclaimed = (Claim i, record { there = there; unclaimed = unclaimed; earlier_done = λ k low conflict. before k low })
  step_of_least true claimed = elim (fails (has_taken state i) (system_pools (access_at state.accesses i))) [
    | inr left ↦ (Take i left.0, record { there = there; claimed = claimed; not_done = not_done; own = left.1; not_taken = left.2 })
    | inl taken ↦ elim (fails (has_given state i) (system_pools (access_at state.accesses i))) [
      | inr held ↦ give held.0 taken (record { taken = taken held.0 held.1; kept = held.2 }) (writes state i held.0) refl
      | inl given ↦ (Finish i, record { there = there; claimed = claimed; not_done = not_done; all_taken = taken; all_given = given })
    ]
  ]

pub can_step : (state : CoreState) → IsFinished state ⊎ ((step : Step) × CanStep state step)
can_step state = elim (least (is_done state) (length state.systems)) [
  | inl all ↦ inl all
  | inr found ↦ inr (step_of_least state found.0 found.1 found.2 found.3 (is_claimed state found.0) refl)
]

-- ---- all systems are done

pub last_versions : (state : CoreState) (pool : ℕ) → HasFacts state → IsFinished state → version_at state pool ≡ writers state.accesses pool
last_versions state pool facts finished =
    facts.versions pool
    ∙ just_before state.accesses state.systems pool (length state.accesses) facts.counted
    (λ k low w. facts.done_given k pool (finished k (let counted = facts.counted in omega (arith, low))) (written_named (access_at state.accesses k) pool w))
    (λ k high w. absurd (past state.accesses k high w))
    ∙ ap (λ (xs : List Access). writers xs pool) (take_all (length state.accesses) state.accesses (le_refl (length state.accesses)))
  where
    past : (accesses : List Access) (k : ℕ) → length accesses ≤ k → has_pool (access_at accesses k).write pool ≡ true → ⊥
    past [] k high w = false≢true w
    past (a ∷ accesses) zero high w = omega (arith, high)
    past (a ∷ accesses) (suc k) high w = past accesses k (omega (arith, high)) w
