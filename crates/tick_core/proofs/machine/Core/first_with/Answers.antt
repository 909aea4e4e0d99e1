use Rattle.std.proofs.Common.{◌≡◌, ◌⊎◌, ℕ, inl, inr, get_or, ap, subst, ◌∙◌, arith}
use Rattle.std.proofs.lemmas.Bool.{cases_eq}
use Rattle.tick_core.specs.declared.step.Step.TheVariants.{Claim, Finish}
use Rattle.tick_core.specs.Choosing.{IsTurnAt}
use Rattle.tick_core.specs.Layout.{fresh, pools_in}
use Rattle.tick_core.proofs.ChoiceLemmas.{all_seen, ends_at, still}
use Rattle.tick_core.proofs.machine.Core.first_with.Goals as goal

pub loop-turn-init : goal.loop-turn-init
loop-turn-init c = record {
  ends = ends_at c.args.self.now c.args.system c.args.first c.earlier-first.result c.earlier-first-2.result c.earlier-first.ensures c.earlier-first-2.ensures;
  seen = λ k low. absurd (omega (arith, low));
}

pub loop-turn-preserved : goal.loop-turn-preserved
loop-turn-preserved c = record {
  ends = still c.args.self.now (λ step. (step ≡ Claim c.args.system) ⊎ (step ≡ Finish c.args.system)) (IsTurnAt c.args.system _) c.args.first c.loop-turn.first c.first_at-first.result
      c.loop-turn.invariant.ends c.first_at-first.ensures;
  seen = λ k low step is can beats. elim (cases_eq k c.loop-turn.turn-index) [
    | inl same ↦ c.first_at-first.ensures.among step (subst (λ (n : ℕ). IsTurnAt c.args.system (get_or c.deref-turn-items.result.now n (fresh 0)).pool step) same is) can beats
    | inr apart ↦ c.loop-turn.invariant.seen k (omega (arith, low)) step is can (c.first_at-first.ensures.kept step beats)
  ];
}

pub returns : goal.returns
returns c = record {
  can = c.loop-turn.invariant.ends.can;
  kept = c.loop-turn.invariant.ends.kept;
  among = all_seen c.args.self.now c.law.ensures c.args.system c.deref-turn-items.result.now (ap pools_in c.deref-turn-items.ensures.value ∙ c.system.ensures.pools) c.loop-turn.first
      c.loop-turn.invariant.ends.among (λ k low. c.loop-turn.invariant.seen k (omega (arith, low)));
}
