use Rattle.std.proofs.Common.{◌≡◌, sym, subst, ◌∙◌, length, map, Some, slice_get}
use Rattle.std.specs.List.{All}
use Rattle.world_model.specs.Ticks.{orders_of}
use Rattle.registry.specs.Layout.{maps_of}
use Rattle.tick_runner.specs.Running.{orders_in}
use Rattle.tick_runner.specs.Versions.{IsRightAt}
use Rattle.tick_runner.specs.Working.{IsAtWork, IsLater}
use Rattle.tick_runner.proofs.SideLemmas.{all_orders, snoc_same}
use Rattle.tick_runner.proofs.together.whole.finish.Goals as goal

pub all_buffers-requires-clause-others : goal.all_buffers-requires-clause-others
all_buffers-requires-clause-others g c =
    let led = c.requires.worked.led in
    subst (λ ws. All (IsAtWork (IsRightAt g.S.System.effect c.args.fact.now) (length c.args.systems.now) c.args.board) ws)
    (snoc_same led.others c.pop.new.self.items led.first c.in-Some.first (sym led.all ∙ c.in-Some.ensures.items)).0 led.others_are

pub all_buffers-requires-clause-later : goal.all_buffers-requires-clause-later
all_buffers-requires-clause-later g c =
    let led = c.requires.worked.led in
    subst (λ ws. All IsLater ws) (snoc_same led.others c.pop.new.self.items led.first c.in-Some.first (sym led.all ∙ c.in-Some.ensures.items)).0 led.others_later

pub returns : goal.returns
returns g c =
    let tick = c.args.fact.now.tick in
    let maps = maps_of c.args.fact.now.pools.value.items in
    let effect = g.S.System.effect in
    all_orders g.S.System.lists effect c.args.systems.now tick maps c.all_buffers.result.items c.all_buffers.ensures.count
    (λ place b at. subst (λ ss. slice_get (orders_of (map effect ss) tick maps) place ≡ Some (orders_in b)) c.requires.systems (c.all_buffers.ensures.orders place b at))
