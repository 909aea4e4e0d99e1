use Rattle.std.proofs.Common.{List, map, ap, subst}
use Rattle.registry.specs.Held.{Held}
use Rattle.row_lang.specs.Effects.{system_effect}
use Rattle.row_lang.specs.Systems.{System}
use Rattle.world_top.specs.Running.{IsAfter, world_at}
use Rattle.world_top.proofs.LiveLemmas.{map_if}
use Rattle.world_top.proofs.RunningLemmas.{left_is_lawful, left_printed}
use Rattle.world_top.proofs.run.text_after.Goals as goal

pub finish-requires : goal.finish-requires
finish-requires c =
    let document = c.args.document in
    let loaded = c.in_ok-registry.ensures.world in
    let after = subst (λ (systems : List System). IsAfter c.in_ok-registry.registry c.in_ok-after.after (map (system_effect document.world.profile) systems) document.world.tick c.args.ticks) c.as_slice.ensures c.in_ok-after.ensures in
    left_is_lawful document c.in_ok-registry.registry c.in_ok-after.after c.args.ticks (ap (λ (h : Held). h.limit) loaded) (ap (world_at document.world.tick) loaded) after c.requires.lawful c.requires.within

pub returns : goal.returns
returns c =
    let document = c.args.document in
    let loaded = c.in_ok-registry.ensures.world in
    let new = c.in_ok-after.after in
    let after = subst (λ (systems : List System). IsAfter c.in_ok-registry.registry new (map (system_effect document.world.profile) systems) document.world.tick c.args.ticks) c.as_slice.ensures c.in_ok-after.ensures in
    map_if c.finish.result (λ whole printed. left_printed document c.in_ok-registry.registry new c.args.ticks (ap (λ (h : Held). h.limit) loaded) (ap (world_at document.world.tick) loaded) after c.new.result.items whole.items c.new.ensures.items printed) c.finish.ensures
