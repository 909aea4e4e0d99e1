use Rattle.std.proofs.Common.{◌≡◌, sym, ap, subst, ◌∙◌, map, arith}
use Rattle.std.proofs.lemmas.Bool.{false≢true}
use Rattle.std.proofs.lemmas.Option.{same_Some}
use Rattle.world_model.specs.declared.event.Event.{Event}
use Rattle.world_top.specs.declared.watching.Watch.{Watch}
use Rattle.world_top.proofs.LiveLemmas.{map_if, if_ok}
use Rattle.world_top.proofs.DisconnectLemmas.{Disconnects, stopped, what_it_heard, read_item, item_at, is_heard_by}
use Rattle.world_top.proofs.watching.stop.Goals as goal

pub unreachable-requires : goal.unreachable-requires
unreachable-requires c =
    let w = c.index-watch.result.now in
    let at = read_item c.args.watches.now.items c.args.at w c.requires.within c.index-watch.ensures in
    let its = c.requires.watched.0 in
    let are = c.requires.watched.1 in
    let s = item_at its c.args.at (omega (arith, are.counted, c.requires.within)) in
    false≢true (sym c.in_default.ensures.unknown ∙ is_heard_by c.args.registry.now w s.item (are.each c.args.at w s.item at s.at) (c.requires.stands w at))

pub returns-clause-heard : goal.returns-clause-heard
returns-clause-heard c =
    let w = c.index-watch.result.now in
    let item = read_item c.args.watches.now.items c.args.at w c.requires.within c.index-watch.ensures in
    map_if c.entities_of.result (λ heard entities its ends watched at.
    entities ∙ ap (map (λ (e : Event). e.entity)) c.heard.ensures ∙ what_it_heard c.args.registry.now w ends c.in-Ok.recorder.heard c.in-Ok.recorder.spare (watched.each c.args.at w ends item at) (c.requires.stands w item) c.in-Ok.ensures.listener)
    c.entities_of.ensures

pub returns-clause-watched : goal.returns-clause-watched
returns-clause-watched c =
    let old = c.args.registry.now in
    let new = c.disconnect.new.self in
    let items = c.args.watches.now.items in
    let w = c.index_mut.result.now in
    let item = read_item items c.args.at w c.requires.within c.index_mut.ensures.value in
    let same : c.index-watch.result.now ≡ w = same_Some c.index-watch.result.now w (sym (read_item items c.args.at c.index-watch.result.now c.requires.within c.index-watch.ensures) ∙ item) in
    let gone : Disconnects old new w.kind w.pool w.number = subst (λ (x : Watch). Disconnects old new x.kind x.pool x.number) same (record { rewired = c.in-Ok.ensures.rewired; gone = c.in-Ok.ensures.gone }) in
    if_ok c.entities_of.result (λ its ends watched at. stopped old new items its c.args.at w ends watched item at gone)
