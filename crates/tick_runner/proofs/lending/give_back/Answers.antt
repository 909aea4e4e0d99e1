use Rattle.std.proofs.Common.{length, ap, ◌∙◌, arith, set}
use Rattle.std.proofs.lemmas.List.{length-set}
use Rattle.storage.specs.Stored.{Stored}
use Rattle.world_model.specs.declared.component.Row.{Row}
use Rattle.world_model.specs.Groups.{are_declared}
use Rattle.system_api.specs.Registers.{numbers}
use Rattle.tick_runner.specs.Putting.{put_back}
use Rattle.tick_runner.proofs.PutLemmas.{popped, popped_declared}
use Rattle.tick_runner.proofs.lending.give_back.Goals as goal

pub index_mut-requires : goal.index_mut-requires
index_mut-requires c =
    let low = (popped_declared (length c.loop-pool.pools.items) c.loop-pool.writes.items c.pop.new.self.items c.in-Some.pool c.in-Some.ensures.items c.loop-pool.invariant.declared).1 in
    omega (arith, low)

pub loop-pool-preserved : goal.loop-pool-preserved
loop-pool-preserved c =
    let items = c.loop-pool.pools.items in
    let w = c.in-Some.pool in
    let declared = popped_declared (length items) c.loop-pool.writes.items c.pop.new.self.items w c.in-Some.ensures.items c.loop-pool.invariant.declared in
    record {
      pools = ap (λ (d : Stored Row). put_back c.pop.new.self.items (set items w.number d)) c.replace-empty.ensures.after ∙ popped c.loop-pool.writes.items c.pop.new.self.items w items c.in-Some.ensures.items ∙ c.loop-pool.invariant.pools;
      declared = ap (λ n. are_declared n (numbers c.pop.new.self.items)) (length-set items w.number c.replace-empty.new.dest) ∙ declared.0;
      room = omega (arith, c.in-Some.ensures.capacity, c.loop-pool.invariant.room);
    }
