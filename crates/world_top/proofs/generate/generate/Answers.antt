use Rattle.std.proofs.Common.{List, map, sym, ap, subst, ◌∙◌}
use Rattle.registry.specs.Held.{Held}
use Rattle.row_lang.specs.Effects.{system_effect}
use Rattle.row_lang.specs.Systems.{System}
use Rattle.world_maker.specs.Summaries.{summary_text}
use Rattle.world_text.specs.declared.document.Document.{Document}
use Rattle.world_top.specs.Running.{IsAfter, world_at}
use Rattle.world_top.proofs.LiveLemmas.{map_if}
use Rattle.world_top.proofs.RunningLemmas.{left_decls, left_world}
use Rattle.world_top.proofs.generate.generate.Goals as goal

pub summary-requires : goal.summary-requires
summary-requires c =
    let document : Document = c.in_ok-world.field-0 in
    let loaded = c.in_ok-registry.ensures.world in
    let after = subst (λ (systems : List System). IsAfter c.in_ok-registry.registry c.in_ok-after.after (map (system_effect document.world.profile) systems) document.world.tick c.args.ticks) c.as_slice.ensures c.in_ok-after.ensures in
    c.as_slice-2.ensures ∙ sym (left_decls document c.in_ok-registry.registry c.in_ok-after.after c.args.ticks (ap (λ (h : Held). h.limit) loaded) (ap (world_at document.world.tick) loaded) after)

pub returns : goal.returns
returns c =
    let document : Document = c.in_ok-world.field-0 in
    let loaded = c.in_ok-registry.ensures.world in
    let new = c.in_ok-after.after in
    let after = subst (λ (systems : List System). IsAfter c.in_ok-registry.registry new (map (system_effect document.world.profile) systems) document.world.tick c.args.ticks) c.as_slice.ensures c.in_ok-after.ensures in
    let left = left_world document c.in_ok-registry.registry new c.args.ticks (ap (λ (h : Held). h.limit) loaded) (ap (world_at document.world.tick) loaded) after in
    map_if c.summary.result (λ out printed. record { document = document; made = c.in_ok-world.ensures; printed = printed ∙ ap summary_text left }) c.summary.ensures
