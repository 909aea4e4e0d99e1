use Rattle.std.proofs.Common.{length, refl, arith}
use Rattle.std.proofs.lemmas.Option.{slice_get_read, slice_get_within}
use Rattle.registry.proofs.LawLemmas.{once_more}
use Rattle.registry.proofs.parts.lawful.know_each_once.Goals as goal

pub loop-pool-preserved : goal.loop-pool-preserved
loop-pool-preserved c =
    once_more c.args.pools.now c.loop-pool.pool-index c.pool-item.result c.loop-pool.invariant (slice_get_read c.args.pools.now (length c.args.pools.now) c.loop-pool.pool-index c.pool-item.result refl (omega arith) c.pool-item.is) c.index.ensures.once

pub returns : goal.returns
returns c pool stored at = c.loop-pool.invariant pool stored (let low = slice_get_within c.args.pools.now pool stored at in omega arith) at
