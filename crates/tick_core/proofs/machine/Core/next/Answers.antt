use Rattle.std.proofs.Common.{inl, inr, arith}
use Rattle.std.proofs.lemmas.Bool.{cases_eq}
use Rattle.tick_core.specs.Steps.{system_of}
use Rattle.tick_core.proofs.ChoiceLemmas.{can_there, none_found}
use Rattle.tick_core.proofs.machine.Core.next.Goals as goal

pub loop-system-preserved : goal.loop-system-preserved
loop-system-preserved c = record {
  can = c.first_with-first.ensures.can c.loop-system.invariant.can;
  among = λ step low can beats. elim (cases_eq (system_of step) c.loop-system.system) [
    | inl same ↦ c.first_with-first.ensures.among step same can beats
    | inr apart ↦ c.loop-system.invariant.among step (omega (arith, low)) can (c.first_with-first.ensures.kept step beats)
  ];
}

pub returns-clause-none : goal.returns-clause-none
returns-clause-none c = none_found c.args.self.now c.law.ensures c.loop-system.first c.loop-system.invariant.can
    (λ step can. c.loop-system.invariant.among step (let there = can_there c.args.self.now step can in omega (arith, there)) can)
