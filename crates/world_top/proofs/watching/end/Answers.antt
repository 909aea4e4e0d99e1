use Rattle.std.proofs.Common.{◌≡◌, ◌++◌, ◌∷◌, [], List, length, Some, slice_get, sym, ap, ◌∙◌}
use Rattle.std.proofs.lemmas.Option.{slice_get_within}
use Rattle.entity_id.specs.Identifiers.{p20_12}
use Rattle.entity_id.specs.declared.entity.Entity.{Entity}
use Rattle.world_text.specs.Replies.{unwatched_text, heard_text}
use Rattle.world_top.specs.declared.watching.Watch.{Watch}
use Rattle.world_top.proofs.LiveLemmas.{map_ok}
use Rattle.world_top.proofs.PlayLemmas.{unknown, unwatched}
use Rattle.world_top.proofs.watching.end.Goals as goal

pub returns-in_default : goal.returns-in_default
returns-in_default c =
    map_ok c.push_refusal.result
    (λ printed. unknown c.args.registry.now c.args.watches.now.items c.args.number c.args.out.now.items c.push_refusal.new.out.items (λ w at. c.in_default.ensures.none w (ap (λ (xs : List Watch). slice_get xs c.args.number) c.as_slice.ensures.value ∙ at)) printed)
    c.push_refusal.ensures

pub stop-requires-clause-within : goal.stop-requires-clause-within
stop-requires-clause-within c =
    slice_get_within c.args.watches.now.items c.args.number c.in-Some.watch (ap (λ (xs : List Watch). slice_get xs c.args.number) (sym c.as_slice.ensures.value) ∙ c.in-Some.ensures.some.0)

pub returns : goal.returns
returns c =
    let w = c.in-Some.watch in
    let decls = c.args.decls.now in
    let before = c.args.out.now.items in
    let at : slice_get c.args.watches.now.items c.args.number ≡ Some w = ap (λ (xs : List Watch). slice_get xs c.args.number) (sym c.as_slice.ensures.value) ∙ c.in-Some.ensures.some.0 in
    map_ok c.push_unwatched.result (λ printed.
    unwatched c.args.registry.now c.stop.new.registry c.args.watches.now.items c.stop.new.watches.items c.args.number w decls c.in_ok-heard.heard.items before c.push_unwatched.new.out.items at c.in-Some.ensures.some.1 c.requires.decls c.requires.profile c.in_ok-heard.ensures.world c.in_ok-heard.ensures.limit c.in_ok-heard.ensures.heard c.in_ok-heard.ensures.watched
    (printed ∙ ap (λ (heard : List Entity). before ++ ((unwatched_text (length heard) ++ 10 ∷ []) ++ heard_text p20_12 decls c.args.number w.kind w.pool heard)) c.deref.ensures.value))
    c.push_unwatched.ensures.ok
