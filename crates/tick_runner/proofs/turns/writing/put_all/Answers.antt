use Rattle.std.proofs.Common.{Option, subst, arith}
use Rattle.pool_slots.specs.Turns.{Turn}
use Rattle.tick_runner.specs.Turns.{MayComeBack}
use Rattle.tick_runner.proofs.TurnLemmas.{last_pair}
use Rattle.tick_runner.proofs.turns.writing.put_all.Goals as goal

pub unreachable-requires-in_default-last : goal.unreachable-requires-in_default-last
unreachable-requires-in_default-last g c =
    let both = last_pair (MayComeBack g.F.PoolFact.admits) _ _ _ _ _ _ c.in-Some-pop.ensures.items c.in-Some.ensures.items c.loop-pool.invariant.back in
    subst (λ (o : Option (Turn _)). MayComeBack g.F.PoolFact.admits o c.in-Some.pool) c.in_default-last.is both.1

pub put-requires-clause-room : goal.put-requires-clause-room
put-requires-clause-room g c =
    let both = last_pair (MayComeBack g.F.PoolFact.admits) _ _ _ _ _ _ c.in-Some-pop.ensures.items c.in-Some.ensures.items c.loop-pool.invariant.back in
    (subst (λ (o : Option (Turn _)). MayComeBack g.F.PoolFact.admits o c.in-Some.pool) c.in-Some-last.is both.1).room

pub put-requires-clause-admitted : goal.put-requires-clause-admitted
put-requires-clause-admitted g c =
    let both = last_pair (MayComeBack g.F.PoolFact.admits) _ _ _ _ _ _ c.in-Some-pop.ensures.items c.in-Some.ensures.items c.loop-pool.invariant.back in
    (subst (λ (o : Option (Turn _)). MayComeBack g.F.PoolFact.admits o c.in-Some.pool) c.in-Some-last.is both.1).admitted

pub put-requires-clause-shape : goal.put-requires-clause-shape
put-requires-clause-shape g c =
    let both = last_pair (MayComeBack g.F.PoolFact.admits) _ _ _ _ _ _ c.in-Some-pop.ensures.items c.in-Some.ensures.items c.loop-pool.invariant.back in
    (subst (λ (o : Option (Turn _)). MayComeBack g.F.PoolFact.admits o c.in-Some.pool) c.in-Some-last.is both.1).shape

pub loop-pool-preserved : goal.loop-pool-preserved
loop-pool-preserved g c =
    let both = last_pair (MayComeBack g.F.PoolFact.admits) _ _ _ _ _ _ c.in-Some-pop.ensures.items c.in-Some.ensures.items c.loop-pool.invariant.back in
    record {
      back = both.0;
      room = omega (arith, c.in-Some.ensures.capacity, c.loop-pool.invariant.room);
    }
