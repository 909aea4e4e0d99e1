use Rattle.std.proofs.Common.{◌≡◌, ℕ, ◌<◌, List, [], ◌∷◌, ◌++◌, append_assoc, append-nil, length, sym, ap, subst, ◌∙◌, arith}
use Rattle.entity_id.specs.declared.entity.Entity.{Entity}
use Rattle.entity_slots.specs.Threads.{Threaded, IsChain}
use Rattle.entity_slots.proofs.WalkLemmas.{IsStep, step, some_before_null, none_at_null, next_read, left_short, shorter}
use Rattle.entity_slots.proofs.identifiers.Identifiers.free_list.Goals as goal

pub index-requires : goal.index-requires
index-requires c =
    let list : List Entity = c.self.inside.list.items in
    let h = c.loop-index.invariant in
    let s : IsStep list c.self.inside.null c.loop-index.index h.left = step list c.self.inside.null c.loop-index.index h.left h.chained (some_before_null list c.self.inside.null c.loop-index.index h.left h.chained c.loop-index-test.true) in
    let within : c.loop-index.index < length list = s.within in
    omega (arith, c.self.inside.list.ok.0)

pub loop-index-smaller : goal.loop-index-smaller
loop-index-smaller c =
    let list : List Entity = c.self.inside.list.items in
    let null : ℕ = c.self.inside.null in
    let at : ℕ = c.loop-index.index in
    let e : Entity = c.index.result.now in
    let h = c.loop-index.invariant in
    let s : IsStep list null at h.left = step list null at h.left h.chained (some_before_null list null at h.left h.chained c.loop-index-test.true) in
    shorter list null at e.index h.left s.after c.self.invariant.ended (left_short list c.self.inside.top c.loop-index.free.items h.left h.parts) h.chained s.parts
    (subst (λ (i : ℕ). IsChain list null i s.after) (next_read list at e s.within c.index.ensures) s.chained)

pub loop-index-preserved : goal.loop-index-preserved
loop-index-preserved c =
    let list : List Entity = c.self.inside.list.items in
    let null : ℕ = c.self.inside.null in
    let at : ℕ = c.loop-index.index in
    let e : Entity = c.index.result.now in
    let h = c.loop-index.invariant in
    let s : IsStep list null at h.left = step list null at h.left h.chained (some_before_null list null at h.left h.chained c.loop-index-test.true) in
    record {
      left = s.after;
      parts = h.parts ∙ ap (λ xs. c.loop-index.free.items ++ xs) s.parts ∙ sym (append_assoc c.loop-index.free.items (at ∷ []) s.after)
          ∙ ap (λ xs. xs ++ s.after) (sym c.in_ok-push.ensures.items);
      chained = subst (λ (i : ℕ). IsChain list null i s.after) (next_read list at e s.within c.index.ensures) s.chained;
    }

pub returns : goal.returns
returns c =
    let list : List Entity = c.self.inside.list.items in
    let h = c.loop-index.invariant in
    let none : h.left ≡ [] = none_at_null list c.self.inside.null c.loop-index.index h.left c.self.invariant.ended h.chained c.loop-index-test.false in
    sym (append-nil c.loop-index.free.items) ∙ ap (λ xs. c.loop-index.free.items ++ xs) (sym none) ∙ sym h.parts
    ∙ ap (λ (v : Threaded). v.free) c.self.view_is
