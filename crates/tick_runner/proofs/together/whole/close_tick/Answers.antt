use Rattle.std.proofs.Common.{◌∙◌}
use Rattle.tick_runner.proofs.SideLemmas.{rows_back, shapes_back}
use Rattle.tick_runner.proofs.together.whole.close_tick.Goals as goal

pub returns-clause-rows : goal.returns-clause-rows
returns-clause-rows g c = rows_back g.S.System.lists g.S.System.effect g.met.S.System.frame c.args.fact.now c.args.slots c.requires.slots c.args.lasts.now c.requires.lasts c.close_at.new.pools.items
    (c.close_at.ensures.count ∙ c.requires.list) c.close_at.ensures.back

pub returns-clause-shapes : goal.returns-clause-shapes
returns-clause-shapes g c = shapes_back g.S.System.lists g.S.System.effect g.met.S.System.frame c.args.fact.now c.args.slots c.requires.slots c.args.lasts.now c.requires.lasts c.close_at.new.pools.items
    (c.close_at.ensures.count ∙ c.requires.list) c.close_at.ensures.back
