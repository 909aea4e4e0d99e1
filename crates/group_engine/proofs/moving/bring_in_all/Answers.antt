use Rattle.std.proofs.Common.{get_or, set, sym, refl, subst, ◌∙◌, arith}
use Rattle.std.proofs.Math.Seq.{map-set_same}
use Rattle.entity_id.specs.FiniteMap as entries
use Rattle.world_model.specs.Groups.{packed_at}
use Rattle.group_engine.specs.Grouped.{packed_of, core_of}
use Rattle.group_engine.specs.Moving.{IsReady, IsMoved}
use Rattle.group_engine.proofs.OwnLemmas.{packed_here, packed-set_same, packed-set_other, none_moved, next_pool, one_moved, all_moved}
use Rattle.group_engine.proofs.moving.bring_in_all.Goals as goal

pub loop-k-init : goal.loop-k-init
loop-k-init g c = record { moved = none_moved c.args.own.now c.args.entity c.args.place (packed_of c.args.pools.now) c.requires.distinct; cores = refl; steps = omega arith }

pub bounds-pools-pool : goal.bounds-pools-pool
bounds-pools-pool g c = (next_pool c.args.own.now c.args.pools.now c.loop-k.pools c.args.entity c.args.place c.loop-k.k c.requires.distinct c.requires.ready c.loop-k.invariant.moved (omega arith)).1

pub bring-requires : goal.bring-requires
bring-requires g c =
    let next = next_pool c.args.own.now c.args.pools.now c.loop-k.pools c.args.entity c.args.place c.loop-k.k c.requires.distinct c.requires.ready c.loop-k.invariant.moved (omega arith) in
    subst (IsReady c.args.entity c.args.place) (packed_here c.loop-k.pools (get_or c.args.own.now c.loop-k.k 0) c.index-pools-pool.result next.1) next.2

pub loop-k-preserved : goal.loop-k-preserved
loop-k-preserved g c =
    let own = c.args.own.now in
    let o = get_or own c.loop-k.k 0 in
    let pools = c.loop-k.pools in
    let d = c.index-pools-pool.result in
    let new = c.bring.new.pool in
    let next = next_pool own c.args.pools.now pools c.args.entity c.args.place c.loop-k.k c.requires.distinct c.requires.ready c.loop-k.invariant.moved (omega arith) in
    record {
      moved = one_moved own c.args.entity c.args.place (packed_of c.args.pools.now) c.requires.distinct c.loop-k.k o (packed_of pools) (packed_of (set pools o new)) c.loop-k.invariant.moved next.0
          (subst (λ l. IsMoved c.args.entity c.args.place (packed_at (packed_of pools) o) l) (sym (packed-set_same pools o new next.1)) (subst (λ l. IsMoved c.args.entity c.args.place l (entries.keys new.pairs)) (sym (packed_here pools o d next.1)) c.bring.ensures.moved))
          (λ p apart. packed-set_other pools o p new apart);
      cores = map-set_same core_of pools o new d c.bring.ensures.core ∙ c.loop-k.invariant.cores;
      steps = omega arith;
    }

pub returns-clause-moved : goal.returns-clause-moved
returns-clause-moved g c = all_moved c.args.own.now c.args.entity c.args.place (packed_of c.args.pools.now) c.requires.distinct c.loop-k.k (packed_of c.loop-k.pools) (omega arith) c.loop-k.invariant.moved
