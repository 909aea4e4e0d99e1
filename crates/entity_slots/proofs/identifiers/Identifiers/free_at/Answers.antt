use Rattle.std.proofs.Common.{◌≡◌, ℕ, ◌≤◌, List, drop, length, Some, None, slice_get, refl, sym, ap, subst, ◌∙◌, arith}
use Rattle.std.proofs.lemmas.Option.{slice_get_read}
use Rattle.entity_id.specs.declared.entity.Entity.{Entity}
use Rattle.entity_slots.specs.Threads.{Threaded, chain}
use Rattle.entity_slots.proofs.WalkLemmas.{next_left, none_past, none_at, none_at_null, read_at}
use Rattle.entity_slots.proofs.identifiers.Identifiers.free_at.Goals as goal

pub returns-in_err-index : goal.returns-in_err-index
returns-in_err-index c =
    let list : List Entity = c.self.inside.list.items in
    let whole : List ℕ = chain (length list) list c.self.inside.top in
    let past : length list ≤ c.loop-step.index = subst (λ (xs : List Entity). length xs ≤ c.loop-step.index) c.deref.ensures.value c.in_err-index.ensures.lookup.3 in
    let none : slice_get whole c.args.place ≡ None =
    none_at whole c.loop-step._step c.args.place (none_past list c.self.inside.null c.loop-step.index (drop c.loop-step._step whole) c.loop-step.invariant past) (omega arith) in
    c.from_residual.ensures ∙ sym none ∙ ap (λ (v : Threaded). slice_get v.free c.args.place) c.self.view_is

pub loop-step-preserved : goal.loop-step-preserved
loop-step-preserved c =
    let list : List Entity = c.self.inside.list.items in
    let whole : List ℕ = chain (length list) list c.self.inside.top in
    let at : ℕ = c.loop-step.index in
    let e : Entity = c.in_ok-index.field-0.now in
    let look = c.in_ok-index.ensures.lookup in
    let here : slice_get list at ≡ Some e =
    subst (λ (xs : List Entity). slice_get xs at ≡ Some e) c.deref.ensures.value (slice_get_read c.deref.result.now (length c.deref.result.now) at e refl look.3.0 look.1) in
    next_left list c.self.inside.null at e whole c.loop-step._step c.self.invariant.ended c.loop-step.invariant here

pub returns-then-index-self : goal.returns-then-index-self
returns-then-index-self c =
    let list : List Entity = c.self.inside.list.items in
    let whole : List ℕ = chain (length list) list c.self.inside.top in
    let none : slice_get whole c.args.place ≡ None =
    none_at whole c.loop-step._step c.args.place (none_at_null list c.self.inside.null c.loop-step.index (drop c.loop-step._step whole) c.self.invariant.ended c.loop-step.invariant c.if-index-self.true) (omega arith) in
    sym none ∙ ap (λ (v : Threaded). slice_get v.free c.args.place) c.self.view_is

pub returns-else-index-self : goal.returns-else-index-self
returns-else-index-self c =
    let list : List Entity = c.self.inside.list.items in
    let whole : List ℕ = chain (length list) list c.self.inside.top in
    let ended : c.loop-step._step ≡ c.args.place = omega arith in
    let here : slice_get whole c.loop-step._step ≡ Some c.loop-step.index =
    read_at list c.self.inside.null c.loop-step.index whole c.loop-step._step c.loop-step.invariant c.if-index-self.false in
    sym here ∙ ap (slice_get whole) ended ∙ ap (λ (v : Threaded). slice_get v.free c.args.place) c.self.view_is
