use Rattle.std.proofs.Common.{◌++◌, ◌∷◌, [], ℕ, List, Some, ap, sym, subst, ◌∙◌}
use Rattle.signal_sink.specs.Hearings.{Hearing, heard_lists}
use Rattle.registry.specs.Listeners.{listeners_at}
use Rattle.world_text.specs.declared.script.ScriptLine.TheVariants.{Watch as WatchLine}
use Rattle.world_text.specs.Replies.{watched_text}
use Rattle.world_top.specs.declared.watching.Watch.{Watch}
use Rattle.world_top.specs.Playing.{Plays}
use Rattle.world_top.proofs.LiveLemmas.{map_ok}
use Rattle.world_top.proofs.ConnectLemmas.{Connects}
use Rattle.world_top.proofs.PlayLemmas.{began}
use Rattle.world_top.proofs.watching.begin.Goals as goal

pub returns-in-Ok-connect : goal.returns-in-Ok-connect
returns-in-Ok-connect c =
    let old = c.args.registry.now in
    let new = c.connect.new.self in
    let kind = c.args.kind in
    let pool = c.args.pool in
    let e = c.in-Ok-connect.ensures in
    let connects : Connects old new kind pool c.in-Ok-connect.listener = record {
      rewired = e.rewired;
      number_is = e.number;
      heard = e.heard ∙ ap (λ (h : Hearing). heard_lists (listeners_at old kind pool) ++ Some h.heard ∷ []) c.new.ensures;
    } in
    let before = c.args.out.now.items in
    map_ok c.push_watched.result (λ printed.
    subst (λ (ws : List Watch). Plays old new c.args.watches.now.items ws before c.push_watched.new.out.items (WatchLine kind pool)) (sym c.in_ok-push-in-Ok-connect.ensures.items)
    (began old new c.args.watches.now.items kind pool c.in-Ok-connect.listener before c.push_watched.new.out.items e.declared connects e.room (printed ∙ ap (λ (n : ℕ). before ++ (watched_text n ++ 10 ∷ [])) (c.in-Ok.ensures.1 ∙ c.len.ensures ∙ c.args.watches.now.ok.0))))
    c.push_watched.ensures.ok
