-- Facts of whole schedules.
use Rattle.std.proofs.Common.{◌≡◌, ℕ, ◌+◌, ◌<◌, Bool, true, false, cond, List, [], ◌∷◌, set, length, get_or, count_by, zero, suc, inl, inr, refl, sym, ap, ap₂, ◌∙◌, add-zero, zero-add, length-set, subst, arith, get_or-set_same, get_or-set_other, eq-eqb}
use Rattle.std.proofs.lemmas.Bool.{cases_eq, ne_eqb}
use Rattle.std.proofs.lemmas.List.Sums.{sum_by-cons}
use Rattle.std.proofs.lemmas.List.{length-map}
use Rattle.world_model.specs.declared.access.Access.{Access}
use Rattle.tick_core.specs.declared.step.Step.{Step}
use Rattle.tick_core.specs.declared.step.Step.TheVariants.{Claim, Take, Leave, Put, Finish}
use Rattle.tick_core.specs.Facts.{HasFacts}
use Rattle.tick_core.specs.Schedules.{IsFinished, IsSchedule, after_all, is_claim_of}
use Rattle.tick_core.specs.States.{CoreState, SystemState, idle, is_claimed, start}
use Rattle.tick_core.specs.Steps.{CanStep, after}
use Rattle.tick_core.proofs.KeepLemmas.{idle_at, start_has, step_keeps}

pub all_keep : (state : CoreState) (steps : List Step) → HasFacts state → IsSchedule state steps → HasFacts (after_all state steps)
all_keep state [] facts can = facts
all_keep state (step ∷ steps) facts can = all_keep (after state step) steps (step_keeps state step facts can.0) can.1

pub reached : (accesses : List Access) (steps : List Step) → IsSchedule (start accesses) steps → HasFacts (after_all (start accesses) steps)
reached accesses steps can = all_keep (start accesses) steps (start_has accesses) can

-- ---- claims

abbrev one_if : Bool → ℕ
one_if b = cond b 1 0

set_claim : (systems : List SystemState) (i : ℕ) (q : SystemState) → q.claimed ≡ (get_or systems i idle).claimed → (get_or (set systems i q) i idle).claimed ≡ (get_or systems i idle).claimed
set_claim [] i q same = refl
set_claim (x ∷ systems) zero q same = same
set_claim (x ∷ systems) (suc i) q same = set_claim systems i q same

-- one system goes on, and is claimed as before
same_claim : (state : CoreState) (i : ℕ) (q : SystemState) → q.claimed ≡ is_claimed state i → (j : ℕ) → (get_or (set state.systems i q) j idle).claimed ≡ is_claimed state j
same_claim state i q same j = elim (cases_eq j i) [
  | inl e ↦ subst (λ (n : ℕ). (get_or (set state.systems i q) n idle).claimed ≡ is_claimed state n) (sym e) (set_claim state.systems i q same)
  | inr apart ↦ ap (λ (p : SystemState). p.claimed) (get_or-set_other state.systems i j q idle apart)
]

-- a step claims a system where it wasn't claimed before and is after
claim_of : (state : CoreState) (step : Step) (i : ℕ) → CanStep state step → one_if (is_claim_of i step) + one_if (is_claimed state i) ≡ one_if (is_claimed (after state step) i)
claim_of state (Claim j) i can = elim (cases_eq i j) [
  | inl same ↦
      ap₂ (λ a b. one_if a + one_if b) (eq-eqb j i (sym same)) (ap (is_claimed state) same ∙ can.unclaimed)
      ∙ sym (ap one_if (ap (is_claimed (after state (Claim j))) same ∙ ap (λ (p : SystemState). p.claimed) (get_or-set_same state.systems j _ idle can.there)))
  | inr apart ↦
      ap (λ a. one_if a + one_if (is_claimed state i)) (ne_eqb j i (λ e. apart (sym e))) ∙ zero-add _
      ∙ sym (ap one_if (ap (λ (p : SystemState). p.claimed) (get_or-set_other state.systems j i _ idle apart)))
]
claim_of state (Take j pool) i can = zero-add _ ∙ ap one_if (sym (same_claim state j _ refl i))
claim_of state (Leave j pool) i can = zero-add _ ∙ ap one_if (sym (same_claim state j _ refl i))
claim_of state (Put j pool) i can = zero-add _ ∙ ap one_if (sym (same_claim state j _ refl i))
claim_of state (Finish j) i can = zero-add _ ∙ ap one_if (sym (same_claim state j _ refl i))

turned : (a b c d e : ℕ) → a ≡ b + c → b + d ≡ e → a + d ≡ c + e
turned a b c d e h g = omega (arith, h, g)

claims_of : (state : CoreState) (steps : List Step) (i : ℕ) → IsSchedule state steps → count_by (is_claim_of i) steps + one_if (is_claimed state i) ≡ one_if (is_claimed (after_all state steps) i)
claims_of state [] i can = zero-add _
claims_of state (step ∷ steps) i can =
    turned (count_by (is_claim_of i) (step ∷ steps)) (one_if (is_claim_of i step)) (count_by (is_claim_of i) steps) (one_if (is_claimed state i)) (one_if (is_claimed (after state step) i))
    (sum_by-cons (λ s. one_if (is_claim_of i s)) step steps) (claim_of state step i can.0)
    ∙ claims_of (after state step) steps i can.1

claims : (accesses : List Access) (steps : List Step) (i : ℕ) → IsSchedule (start accesses) steps → count_by (is_claim_of i) steps ≡ one_if (is_claimed (after_all (start accesses) steps) i)
claims accesses steps i can =
    sym (add-zero (count_by (is_claim_of i) steps)) ∙ ap (λ (p : SystemState). count_by (is_claim_of i) steps + one_if p.claimed) (sym (idle_at accesses i))
    ∙ claims_of (start accesses) steps i can

pub at_most_once : (accesses : List Access) (steps : List Step) (i : ℕ) → IsSchedule (start accesses) steps → count_by (is_claim_of i) steps < 2
at_most_once accesses steps i can = subst (λ (n : ℕ). n < 2) (sym (claims accesses steps i can)) (few (is_claimed (after_all (start accesses) steps) i))
  where
    few : (b : Bool) → one_if b < 2
    few true = omega arith
    few false = omega arith

-- there are as many states after some steps as before
counted : (state : CoreState) (steps : List Step) → length (after_all state steps).systems ≡ length state.systems
counted state [] = refl
counted state (step ∷ steps) = counted (after state step) steps ∙ counted_step step
  where
    counted_step : (step : Step) → length (after state step).systems ≡ length state.systems
    counted_step (Claim j) = length-set state.systems j _
    counted_step (Take j pool) = length-set state.systems j _
    counted_step (Leave j pool) = length-set state.systems j _
    counted_step (Put j pool) = length-set state.systems j _
    counted_step (Finish j) = length-set state.systems j _

pub once : (accesses : List Access) (steps : List Step) (i : ℕ) → IsSchedule (start accesses) steps → IsFinished (after_all (start accesses) steps) → i < length accesses → count_by (is_claim_of i) steps ≡ 1
once accesses steps i can finished low =
    claims accesses steps i can
    ∙ ap one_if ((reached accesses steps can).done_claimed i (finished i (omega (arith, low, counted (start accesses) steps, length-map accesses (λ (access : Access). idle)))))
