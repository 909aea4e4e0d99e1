use Rattle.std.proofs.Common.{List, sym, ◌∙◌, subst}
use Rattle.storage.specs.Stored.{Stored}
use Rattle.world_model.specs.declared.component.Row.{Row}
use Rattle.registry.specs.Layout.{maps_of}
use Rattle.pool_slots.specs.Turns.{rows_of}
use Rattle.tick_runner.specs.Versions.{IsAt}
use Rattle.tick_runner.proofs.SideLemmas.{admitted_first}
use Rattle.tick_runner.proofs.together.whole.fill_tick.Goals as goal

pub fill-requires-clause-admitted : goal.fill-requires-clause-admitted
fill-requires-clause-admitted g c = λ pool stored at.
    let systems = c.args.fact.now.systems.value.now in
    subst (λ (pools : List (Stored Row)). IsAt g.S.System.lists g.S.System.effect systems c.args.fact.now.tick (maps_of pools) pool 0 (rows_of stored)) (sym c.requires.same)
    (admitted_first g.S.System.lists g.S.System.effect g.met.S.System.frame systems c.args.fact.now.tick c.args.pools.now.items pool stored at)

pub returns-clause-slots : goal.returns-clause-slots
returns-clause-slots g c = record { slots = c.fill.ensures.filled.slots; pools = c.fill.ensures.filled.firsts ∙ sym c.requires.same }
