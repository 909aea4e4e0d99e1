-- The first step is found by looking at one after another.
use Rattle.std.proofs.Common.{◌≡◌, ◌↔◌, ◌⊎◌, ⊎_elim, ℕ, ◌<◌, true, eqb, List, length, get_or, Option, Some, None, IfSome, IsNone, inl, inr, refl, sym, ap, subst, ◌∙◌, arith}
use Rattle.std.proofs.lemmas.Bool.{both_ways, eqb-true, true≢false}
use Rattle.world_model.specs.Frames.{system_pools}
use Rattle.world_model.specs.Groups.{has_pool}
use Rattle.access_graph.specs.Conflicts.{access_at}
use Rattle.tick_core.specs.declared.turns.Turn.{Turn}
use Rattle.tick_core.specs.Layout.{fresh, pools_in}
use Rattle.tick_core.proofs.PlaceLemmas.{any-map, any_place}
use Rattle.tick_core.specs.declared.step.Step.{Step}
use Rattle.tick_core.specs.declared.step.Step.TheVariants.{Claim, Take, Leave, Put, Finish}
use Rattle.tick_core.specs.Choosing.{Beats, Improves, IsTurnAt}
use Rattle.tick_core.specs.Facts.{HasFacts}
use Rattle.tick_core.specs.Schedules.{IsFinished}
use Rattle.tick_core.specs.States.{CoreState, has_given, is_claimed, is_done, names}
use Rattle.tick_core.specs.Steps.{CanStep, IsFirstStep, StandsBefore, system_of}
use Rattle.tick_core.proofs.FactLemmas.{can_step}

-- the order of steps
pub before_before : (a b c : Step) → StandsBefore a b → StandsBefore b c → StandsBefore a c
before_before a b c (inl x) (inl y) = inl (omega (arith, x, y))
before_before a b c (inl x) (inr y) = inl (omega (arith, x, y.0))
before_before a b c (inr x) (inl y) = inl (omega (arith, x.0, y))
before_before a b c (inr (e, inl x)) (inr (f, inl y)) = inr (e ∙ f, inl (omega (arith, x, y)))
before_before a b c (inr (e, inl x)) (inr (f, inr y)) = inr (e ∙ f, inl (omega (arith, x, y.0)))
before_before a b c (inr (e, inr x)) (inr (f, inl y)) = inr (e ∙ f, inl (omega (arith, x.0, y)))
before_before a b c (inr (e, inr x)) (inr (f, inr y)) = inr (e ∙ f, inr (x.0 ∙ y.0, omega (arith, x.1, y.1)))

pub not_before_itself : (a : Step) → StandsBefore a a → ⊥
not_before_itself a (inl x) = omega (arith, x)
not_before_itself a (inr (e, inl x)) = omega (arith, x)
not_before_itself a (inr (e, inr x)) = omega (arith, x.1)

beats_more : (other step : Step) (old : Option Step) → StandsBefore other step → Beats step old → Beats other old
beats_more other step None before beats = tt
beats_more other step (Some first) before beats = before_before other step first before beats

module _ (state : CoreState) where
  -- a step that is earlier and can be taken
  pub takes_over : (old : Option Step) (step : Step) → CanStep state step → Beats step old → Improves state (λ other. other ≡ step) old (Some step)
  takes_over old step can beats = record {
    can = λ _. can;
    kept = λ other before. beats_more other step old before beats;
    among = λ other is _ before. not_before_itself step (subst (λ (o : Step). StandsBefore o step) is before);
  }

  -- a step that isn't earlier or can't be taken
  pub stays : (old : Option Step) (step : Step) → (CanStep state step → Beats step old → ⊥) → Improves state (λ other. other ≡ step) old old
  stays old step never = record {
    can = λ h. h;
    kept = λ other h. h;
    among = λ other is can beats. never (subst (CanStep state) is can) (subst (λ (o : Step). Beats o old) is beats);
  }

  -- ---- one after another

  -- what was looked at first stays so
  pub still : (P Q : Step → Type 0) (a b c : Option Step) → Improves state P a b → Improves state Q b c → Improves state P a c
  still P Q a b c x y = record {
    can = λ h. y.can (x.can h);
    kept = λ step h. x.kept step (y.kept step h);
    among = λ step is can h. x.among step is can (y.kept step h);
  }

  pub ends_at : (i : ℕ) (a b c : Option Step) → Improves state (λ step. step ≡ Claim i) a b → Improves state (λ step. step ≡ Finish i) b c
      → Improves state (λ step. (step ≡ Claim i) ⊎ (step ≡ Finish i)) a c
  ends_at i a b c x y = record {
    can = λ h. y.can (x.can h);
    kept = λ step h. x.kept step (y.kept step h);
    among = λ step is can h. ⊎_elim (λ e. x.among step e can (y.kept step h)) (λ e. y.among step e can h) is;
  }

  pub turns_at : (i pool : ℕ) (a b c d : Option Step) → Improves state (λ step. step ≡ Take i pool) a b → Improves state (λ step. step ≡ Leave i pool) b c → Improves state (λ step. step ≡ Put i pool) c d
      → Improves state (IsTurnAt i pool) a d
  turns_at i pool a b c d x y z = record {
    can = λ h. z.can (y.can (x.can h));
    kept = λ step h. x.kept step (y.kept step (z.kept step h));
    among = λ step is can h. ⊎_elim (λ e. x.among step e can (y.kept step (z.kept step h))) (λ other. ⊎_elim (λ e. y.among step e can (z.kept step h)) (λ e. z.among step e can h) other) is;
  }

  -- all steps of one system were looked at, where its claim, its end and its turns were
  module _ (facts : HasFacts state) (i : ℕ) (turns : List Turn) (pools : pools_in turns ≡ system_pools (access_at state.accesses i)) (found : Option Step)
      (ends : (step : Step) → (step ≡ Claim i) ⊎ (step ≡ Finish i) → CanStep state step → Beats step found → ⊥)
      (seen : (k : ℕ) → k < length turns → (step : Step) → IsTurnAt i (get_or turns k (fresh 0)).pool step → CanStep state step → Beats step found → ⊥) where
    at_turn : (j pool : ℕ) → j ≡ i → names state j pool ≡ true → (step : Step) → IsTurnAt j pool step → CanStep state step → Beats step found → ⊥
    at_turn j pool same named step is can beats =
        let here : has_pool (pools_in turns) pool ≡ true = ap (λ list. has_pool list pool) pools ∙ ap (λ n. names state n pool) (sym same) ∙ named in
        let place = any_place (λ (turn : Turn). eqb turn.pool pool) turns (fresh 0) (any-map (λ (turn : Turn). turn.pool) turns pool ∙ here) in
        seen place.0 place.1 step (subst (λ (n : ℕ). IsTurnAt i n step) (sym (eqb-true _ pool place.2)) (subst (λ (n : ℕ). IsTurnAt n pool step) same is)) can beats

    pub all_seen : (step : Step) → system_of step ≡ i → CanStep state step → Beats step found → ⊥
    all_seen (Claim j) same can beats = ends (Claim j) (inl (ap Claim same)) can beats
    all_seen (Take j pool) same can beats = at_turn j pool same can.own (Take j pool) (inl refl) can beats
    all_seen (Leave j pool) same can beats = at_turn j pool same (facts.own j pool can.0.holds.taken) (Leave j pool) (inr (inl refl)) can beats
    all_seen (Put j pool) same can beats = at_turn j pool same (facts.own j pool can.0.holds.taken) (Put j pool) (inr (inr refl)) can beats
    all_seen (Finish j) same can beats = ends (Finish j) (inr (ap Finish same)) can beats

  -- ---- all were looked at

  module _ (found : Option Step) (can : IfSome found (CanStep state)) (none : (step : Step) → CanStep state step → Beats step found → ⊥) where
    pub first_found : IfSome found (IsFirstStep state)
    first_found = by found can none
      where
        by : (o : Option Step) → IfSome o (CanStep state) → ((step : Step) → CanStep state step → Beats step o → ⊥) → IfSome o (IsFirstStep state)
        by None can none = tt
        by (Some step) can none = record { can = can; first = none }

-- where all systems are done, no step can be taken
pub stuck : (state : CoreState) → HasFacts state → IsFinished state → (step : Step) → CanStep state step → ⊥
stuck state facts finished (Claim i) can = both_ways (is_claimed state i) can.unclaimed (facts.done_claimed i (finished i can.there))
stuck state facts finished (Take i pool) can = both_ways (is_done state i) can.not_done (finished i can.there)
stuck state facts finished (Leave i pool) can = both_ways (has_given state i pool) can.0.holds.kept (facts.done_given i pool (finished i can.0.there) (facts.own i pool can.0.holds.taken))
stuck state facts finished (Put i pool) can = both_ways (has_given state i pool) can.0.holds.kept (facts.done_given i pool (finished i can.0.there) (facts.own i pool can.0.holds.taken))
stuck state facts finished (Finish i) can = both_ways (is_done state i) can.not_done (finished i can.there)

-- none is found exactly where all systems are done
pub none_found : (state : CoreState) → HasFacts state → (found : Option Step) → IfSome found (CanStep state) → ((step : Step) → CanStep state step → Beats step found → ⊥) → IsNone found ↔ IsFinished state
none_found state facts None can none = (λ _. elim (can_step state) [ inl finished ↦ finished | inr step ↦ absurd (none step.0 step.1 tt) ], λ _. refl)
none_found state facts (Some step) can none = (λ is. absurd (true≢false is), λ finished. absurd (stuck state facts finished step can))

-- a step that can be taken is of a system that is there
pub can_there : (state : CoreState) (step : Step) → CanStep state step → system_of step < length state.systems
can_there state (Claim i) can = can.there
can_there state (Take i pool) can = can.there
can_there state (Leave i pool) can = can.0.there
can_there state (Put i pool) can = can.0.there
can_there state (Finish i) can = can.there
