use Rattle.std.proofs.Common.{◌≡◌, ◌<◌, ◌++◌, ℕ, List, Some, slice_get, sym, ap, subst, ◌∙◌, true}
use Rattle.std.proofs.lemmas.List.{append-nil}
use Rattle.entity_id.specs.Identifiers.{p20_12}
use Rattle.world_text.specs.Replies.{heard_text}
use Rattle.world_top.specs.declared.watching.Watch.{Watch}
use Rattle.world_top.specs.Watched.{AreWatched}
use Rattle.world_top.proofs.LiveLemmas.{map_ok, if_ok}
use Rattle.world_top.proofs.DisconnectLemmas.{item_at}
use Rattle.world_top.proofs.LastWatches.{none_stands, left_none, left_one, told_none, told_one}
use Rattle.world_top.proofs.watching.tell_one.Goals as goal

pub returns-in_default-clause-watched : goal.returns-in_default-clause-watched
returns-in_default-clause-watched c = λ its h.
    let o = none_stands c.args.registry.now c.args.watches.now.items its c.args.at c.requires.within (λ w at. c.in_default.ensures.none w (ap (λ (xs : List Watch). slice_get xs c.args.at) c.as_slice.ensures.value ∙ at)) h in
    subst (AreWatched c.args.registry.now c.args.watches.now.items) (sym (left_none its c.args.at o.over o.there o.stands)) h

pub returns-in_default-clause-told : goal.returns-in_default-clause-told
returns-in_default-clause-told c = λ its h.
    let o = none_stands c.args.registry.now c.args.watches.now.items its c.args.at c.requires.within (λ w at. c.in_default.ensures.none w (ap (λ (xs : List Watch). slice_get xs c.args.at) c.as_slice.ensures.value ∙ at)) h in
    sym (append-nil c.args.out.now.items) ∙ ap (λ (told : List ℕ). c.args.out.now.items ++ told) (sym (told_none p20_12 c.args.decls.now its c.args.at o.over o.there o.stands))

pub returns-clause-watched : goal.returns-clause-watched
returns-clause-watched c =
    let w = c.in-Some.watch in
    let at : slice_get c.args.watches.now.items c.args.at ≡ Some w = ap (λ (xs : List Watch). slice_get xs c.args.at) (sym c.as_slice.ensures.value) ∙ c.in-Some.ensures.some.0 in
    if_ok c.push_heard.result (λ its h.
    let s = item_at its c.args.at (subst (λ (n : ℕ). c.args.at < n) h.counted c.requires.within) in
    let stands : s.item.stands ≡ true = sym (h.each c.args.at w s.item at s.at).stands ∙ c.in-Some.ensures.some.1 in
    subst (AreWatched c.stop.new.registry c.stop.new.watches.items) (sym (left_one its c.args.at s.item s.at stands)) (c.in_ok-heard.ensures.watched its s.item h s.at))

pub returns-clause-told : goal.returns-clause-told
returns-clause-told c =
    let w = c.in-Some.watch in
    let decls = c.args.decls.now in
    let before = c.args.out.now.items in
    let at : slice_get c.args.watches.now.items c.args.at ≡ Some w = ap (λ (xs : List Watch). slice_get xs c.args.at) (sym c.as_slice.ensures.value) ∙ c.in-Some.ensures.some.0 in
    map_ok c.push_heard.result (λ printed its h.
    let s = item_at its c.args.at (subst (λ (n : ℕ). c.args.at < n) h.counted c.requires.within) in
    let is = h.each c.args.at w s.item at s.at in
    let stands : s.item.stands ≡ true = sym is.stands ∙ c.in-Some.ensures.some.1 in
    let heard = c.deref.ensures.value ∙ c.in_ok-heard.ensures.heard its s.item h s.at in
    printed ∙ (λ i. before ++ heard_text p20_12 decls (c.in-Ok.ensures.1 i) (is.kind i) (is.pool i) (heard i)) ∙ ap (λ (told : List ℕ). before ++ told) (sym (told_one p20_12 decls its c.args.at s.item s.at stands)))
    c.push_heard.ensures.ok
