use Rattle.std.proofs.Common.{◌<◌, [], length, ap, ◌∙◌, arith}
use Rattle.std.specs.Prelude.{sum_by}
use Rattle.std.proofs.lemmas.List.{take_all}
use Rattle.std.proofs.lemmas.List.Sums.{sum_by_more}
use Rattle.world_model.specs.Worlds.{AreLawfulRows}
use Rattle.world_maker.proofs.SumLemmas.{pool_few, same_length, some_at}
use Rattle.world_maker.proofs.tally.row_count.Goals as goal

pub overflow_add-count : goal.overflow_add-count
overflow_add-count g c =
    let held = c.args.registry.now in
    let w = held.world in
    let pool = c.loop-pool.pool in
    let within : pool < length w.decls = omega (arith, ap length c.requires) in
    let some = some_at w.decls pool within in
    omega (arith, pool_few w held.limit pool some.0 c.law.ensures.world some.1, c.rows_in-count.ensures, c.loop-pool.invariant.few, c.law.ensures.world.few_decls)

pub loop-pool-preserved : goal.loop-pool-preserved
loop-pool-preserved g c =
    let held = c.args.registry.now in
    let w = held.world in
    let pool = c.loop-pool.pool in
    let within : pool < length w.decls = omega (arith, ap length c.requires) in
    let some = some_at w.decls pool within in
    let as_many = same_length (AreLawfulRows w.profile w.slots) w.decls w.pools c.law.ensures.world.pools in
    let more = sum_by_more length w.pools pool [] (omega (arith, as_many)) in
    let few = pool_few w held.limit pool some.0 c.law.ensures.world some.1 in
    record {
      counted = omega (arith, more, c.rows_in-count.ensures, c.loop-pool.invariant.counted);
      few = omega (arith, few, c.rows_in-count.ensures, c.loop-pool.invariant.few);
    }

pub returns : goal.returns
returns g c =
    let w = c.args.registry.now.world in
    let as_many = same_length (AreLawfulRows w.profile w.slots) w.decls w.pools c.law.ensures.world.pools in
    c.loop-pool.invariant.counted ∙ ap (sum_by length) (take_all c.loop-pool.pool w.pools (omega (arith, as_many, ap length c.requires)))
