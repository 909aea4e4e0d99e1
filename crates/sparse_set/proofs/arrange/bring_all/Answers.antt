use Rattle.std.proofs.Common.{sym, refl, arith, rules}
use Rattle.entity_id.specs.declared.entity.Entity.{Entity}
use Rattle.entity_id.proofs.ListLemmas.{past_end}
use Rattle.entity_id.proofs.ArrangeLemmas.{arranged_start, arranged_by_place, arranged_end}
use Rattle.sparse_set.proofs.arrange.bring_all.Goals as goal

pub loop-place-init : goal.loop-place-init
loop-place-init g c = record {
  arranged = arranged_start (λ (v : Entity). v.index) c.args.set.now.list c.args.order.now c.requires.order c.requires.distinct;
  spare = refl;
  bound = refl;
  steps = omega arith;
}

pub loop-place-preserved : goal.loop-place-preserved
loop-place-preserved g c = record {
  arranged = arranged_by_place c.args.set.now.list c.args.order.now c.loop-place.set.list c.bring.new.set.list c.loop-place.place c.in-Some.entity c.loop-place.invariant.arranged (sym c.in-Some.ensures) c.bring.ensures.list;
  spare = search rules;
  bound = search rules;
  steps = omega arith;
}

pub returns-in_default-clause-list : goal.returns-in_default-clause-list
returns-in_default-clause-list g c = arranged_end (λ (v : Entity). v.index) c.args.set.now.list c.args.order.now c.loop-place.set.list c.loop-place.place (past_end c.args.order.now c.loop-place.place (sym c.in_default.ensures)) c.loop-place.invariant.arranged

pub returns-clause-list : goal.returns-clause-list
returns-clause-list g c = arranged_end (λ (v : Entity). v.index) c.args.set.now.list c.args.order.now c.loop-place.set.list c.loop-place.place (omega (arith, c.loop-place.invariant.arranged.fits)) c.loop-place.invariant.arranged
