use Rattle.std.proofs.Common.{◌+◌, sym, ap, ◌∙◌}
use Rattle.world_model.specs.declared.world.World.{World}
use Rattle.world_model.specs.Ticks.{orders_of}
use Rattle.tick_runner.specs.Ticking.{world_with_rows}
use Rattle.tick_runner.proofs.NumberLemmas.{same_world, same_events}
use Rattle.tick_runner.proofs.laws.registries_tick_as_worlds.Goals as goal

pub returns-clause-world : goal.returns-clause-world
returns-clause-world c = λ old new systems tick ticks.
    let law = c.commands_ignore_the_tick.ensures in
    let after = world_with_rows old systems tick in
    let lists = orders_of systems tick old.world.pools in
    ap (λ (w : World). record w { tick = tick + 1 }) ticks.world
    ∙ ap (λ (w : World). record w { tick = w.tick + 1 }) (sym (same_world tick old.limit law.reply law.world law.events after lists))

pub returns-clause-events : goal.returns-clause-events
returns-clause-events c = λ held systems tick.
    let law = c.commands_ignore_the_tick.ensures in
    sym (same_events tick held.limit law.reply law.world law.events (world_with_rows held systems tick) (orders_of systems tick held.world.pools))
