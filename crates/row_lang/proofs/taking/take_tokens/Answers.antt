use Rattle.std.proofs.Common.{◌≡◌, ◌∷◌, [], ◌++◌, ◌+◌, ◌≤◌, length, reverse, sym, ap, subst, ◌∙◌, List, arith}
use Rattle.std.proofs.lemmas.List.{length-reverse}
use Rattle.std.proofs.lemmas.Bool.{false≢true}
use Rattle.row_lang.specs.declared.token.Place.{Place}
use Rattle.row_lang.specs.Stacks.{room}
use Rattle.row_lang.proofs.StepLemmas.{IsHalf, half_begun, half_step, half_none, half_unfit, half_done}
use Rattle.row_lang.proofs.RoomLemmas.{popped, emptied, opens_more, opens_none, room_kept}
use Rattle.row_lang.proofs.taking.take_tokens.Goals as goal

pub loop-place-init : goal.loop-place-init
loop-place-init c =
    let one : c.push.new.self.items ≡ c.args.first ∷ [] = c.push.ensures.items ∙ ap (λ ps. ps ++ c.args.first ∷ []) c.new-stack.ensures in
    rw c.new-tokens.ensures.items (subst (λ (ps : List Place). IsHalf c.args.decls.now c.args.access.now (c.args.first ∷ []) c.args.text.now [] ps c.args.text.now) (sym (ap reverse one))
    (half_begun c.args.decls.now c.args.access.now (c.args.first ∷ []) c.args.text.now c.requires.ended c.requires.room))

pub returns-in_default-take_token-clause-bad : goal.returns-in_default-take_token-clause-bad
returns-in_default-take_token-clause-bad c = λ _.
    let half = subst (λ (ps : List Place). IsHalf c.args.decls.now c.args.access.now (c.args.first ∷ []) c.args.text.now c.loop-place.tokens.items ps c.loop-place.rest.now) (popped _ _ c.in-Some.place c.in-Some.ensures.items) c.loop-place.invariant in
    half_none c.args.decls.now c.args.access.now (c.args.first ∷ []) c.args.text.now c.loop-place.tokens.items c.in-Some.place (reverse c.pop.new.self.items) c.loop-place.rest.now half c.in_default-take_token.ensures.none

pub open-requires : goal.open-requires
open-requires c =
    let half = subst (λ (ps : List Place). IsHalf c.args.decls.now c.args.access.now (c.args.first ∷ []) c.args.text.now c.loop-place.tokens.items ps c.loop-place.rest.now) (popped _ _ c.in-Some.place c.in-Some.ensures.items) c.loop-place.invariant in
    let few : length (reverse c.pop.new.self.items) + room c.in-Some.place ≤ 48 = half.room.0 in
    omega (arith, few, length-reverse c.pop.new.self.items)

pub returns-then-not-open-clause-bad : goal.returns-then-not-open-clause-bad
returns-then-not-open-clause-bad c = λ _.
    let half = subst (λ (ps : List Place). IsHalf c.args.decls.now c.args.access.now (c.args.first ∷ []) c.args.text.now c.loop-place.tokens.items ps c.loop-place.rest.now) (popped _ _ c.in-Some.place c.in-Some.ensures.items) c.loop-place.invariant in
    half_unfit c.args.decls.now c.args.access.now (c.args.first ∷ []) c.args.text.now c.loop-place.tokens.items c.in-Some.place (reverse c.pop.new.self.items) c.loop-place.rest.now half c.in-Some-take_token.token c.in-Some-take_token.behind.now
    c.in-Some-take_token.ensures.once (opens_none _ (reverse c.pop.new.self.items) (reverse c.open.new.stack.items) c.open.result c.open.ensures c.if-not-open.true)

pub loop-place-preserved : goal.loop-place-preserved
loop-place-preserved c =
    let half = subst (λ (ps : List Place). IsHalf c.args.decls.now c.args.access.now (c.args.first ∷ []) c.args.text.now c.loop-place.tokens.items ps c.loop-place.rest.now) (popped _ _ c.in-Some.place c.in-Some.ensures.items) c.loop-place.invariant in
    let o = opens_more _ (reverse c.pop.new.self.items) (reverse c.open.new.stack.items) c.open.result c.open.ensures c.if-not-open.false in
    let kept = room_kept c.args.decls.now c.args.access.now c.in-Some.place c.in-Some-take_token.token (reverse c.pop.new.self.items) o.0 c.requires.named half.room.0 half.room.1 o.1 in
    rw c.in_ok-push.ensures.items (subst (λ (ps : List Place). IsHalf c.args.decls.now c.args.access.now (c.args.first ∷ []) c.args.text.now (c.loop-place.tokens.items ++ c.in-Some-take_token.token ∷ []) ps c.in-Some-take_token.behind.now) (sym o.2)
    (half_step c.args.decls.now c.args.access.now (c.args.first ∷ []) c.args.text.now c.loop-place.tokens.items c.in-Some.place (reverse c.pop.new.self.items) c.loop-place.rest.now half c.in-Some-take_token.token c.in-Some-take_token.behind.now o.0 o.1
    c.in-Some-take_token.ensures.some c.in-Some-take_token.ensures.once kept))

pub returns-clause-ok : goal.returns-clause-ok
returns-clause-ok c =
    let none = emptied c.loop-place.stack.items (λ h. false≢true (c.in_default.ensures.variant.1 h)) in
    half_done c.args.decls.now c.args.access.now (c.args.first ∷ []) c.args.text.now c.loop-place.tokens.items c.loop-place.rest.now
    (subst (λ (ps : List Place). IsHalf c.args.decls.now c.args.access.now (c.args.first ∷ []) c.args.text.now c.loop-place.tokens.items ps c.loop-place.rest.now) none c.loop-place.invariant)
