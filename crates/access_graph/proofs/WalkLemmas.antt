-- Walks along any relation.
use Rattle.std.proofs.Common.{◌≡◌, ℕ, zero, suc, ◌+◌, refl, sym, subst, arith}
use Rattle.access_graph.specs.Conflicts.{Walk, Reaches}

-- a walk along steps of one kind, as one along steps of another
pub walk_as : (Step Other : ℕ → ℕ → Type 0) → ((a b : ℕ) → Step a b → Other a b) → (n i j : ℕ) → Walk Step n i j → Walk Other n i j
walk_as Step Other each zero i j walk = walk
walk_as Step Other each (suc n) i j walk = (walk.0, each i walk.0 walk.1, walk_as Step Other each n walk.0 j walk.2)

-- one walk after another
pub walk_join : (Step : ℕ → ℕ → Type 0) (n m all i k j : ℕ) → n + m ≡ all → Walk Step n i k → Walk Step m k j → Walk Step all i j
walk_join Step zero m all i k j e first second =
    let same : m ≡ all = omega arith in
    subst (λ (x : ℕ). Walk Step x i j) same (subst (λ (x : ℕ). Walk Step m x j) (sym first) second)
walk_join Step (suc n) m zero i k j e first second = absurd (omega arith)
walk_join Step (suc n) m (suc all) i k j e first second = (first.0, first.1, walk_join Step n m all first.0 k j (omega arith) first.2 second)

-- the last step of a walk
pub walk_last : (Step : ℕ → ℕ → Type 0) (n i j : ℕ) → Walk Step (suc n) i j → (k : ℕ) × Walk Step n i k × Step k j
walk_last Step zero i j walk = (i, refl, subst (λ (x : ℕ). Step i x) walk.2 walk.1)
walk_last Step (suc n) i j walk =
    let rest = walk_last Step n walk.0 j walk.2 in
    (rest.0, (walk.0, walk.1, rest.1), rest.2)

pub reach_step : (Step : ℕ → ℕ → Type 0) (i j : ℕ) → Step i j → Reaches Step i j
reach_step Step i j step = (0, (j, step, refl))

pub reach_join : (Step : ℕ → ℕ → Type 0) (i k j : ℕ) → Reaches Step i k → Reaches Step k j → Reaches Step i j
reach_join Step i k j first second =
    (first.0 + suc second.0, walk_join Step (suc first.0) (suc second.0) (suc (first.0 + suc second.0)) i k j (omega arith) first.1 second.1)

pub reach_as : (Step Other : ℕ → ℕ → Type 0) → ((a b : ℕ) → Step a b → Other a b) → (i j : ℕ) → Reaches Step i j → Reaches Other i j
reach_as Step Other each i j reach = (reach.0, walk_as Step Other each (suc reach.0) i j reach.1)

-- a walk along steps each of which is a walk
pub reach_through : (Step Other : ℕ → ℕ → Type 0) → ((a b : ℕ) → Step a b → Reaches Other a b) → (n i j : ℕ) → Walk Step (suc n) i j → Reaches Other i j
reach_through Step Other each zero i j walk = subst (λ (x : ℕ). Reaches Other i x) walk.2 (each i walk.0 walk.1)
reach_through Step Other each (suc n) i j walk =
    reach_join Other i walk.0 j (each i walk.0 walk.1) (reach_through Step Other each n walk.0 j walk.2)
