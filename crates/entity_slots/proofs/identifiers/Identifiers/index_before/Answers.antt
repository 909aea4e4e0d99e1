use Rattle.std.proofs.Common.{◌≡◌, ℕ, ◌<◌, List, [], ◌∷◌, ◌++◌, append_assoc, length, refl, sym, ap, subst, ◌∙◌, arith}
use Rattle.entity_id.specs.declared.entity.Entity.{Entity}
use Rattle.entity_slots.specs.Threads.{Threaded, IsChain}
use Rattle.entity_slots.proofs.WalkLemmas.{IsStep, step, some_to_come, still_to_come, next_read, left_short, shorter, right_before}
use Rattle.entity_slots.proofs.identifiers.Identifiers.index_before.Goals as goal

pub index-requires : goal.index-requires
index-requires c =
    let list : List Entity = c.self.inside.list.items in
    let h = c.loop-at.invariant in
    let s : IsStep list c.self.inside.null c.loop-at.at h.left = step list c.self.inside.null c.loop-at.at h.left h.chained (some_to_come h.left c.args.index h.here) in
    let within : c.loop-at.at < length list = s.within in
    omega (arith, c.self.inside.list.ok.0)

pub loop-at-smaller : goal.loop-at-smaller
loop-at-smaller c =
    let list : List Entity = c.self.inside.list.items in
    let null : ℕ = c.self.inside.null in
    let at : ℕ = c.loop-at.at in
    let e : Entity = c.index.result.now in
    let h = c.loop-at.invariant in
    let s : IsStep list null at h.left = step list null at h.left h.chained (some_to_come h.left c.args.index h.here) in
    shorter list null at e.index h.left s.after c.self.invariant.ended (left_short list c.self.inside.top h.passed h.left h.parts) h.chained s.parts
    (subst (λ (i : ℕ). IsChain list null i s.after) (next_read list at e s.within c.index.ensures) s.chained)

pub loop-at-preserved : goal.loop-at-preserved
loop-at-preserved c =
    let list : List Entity = c.self.inside.list.items in
    let null : ℕ = c.self.inside.null in
    let at : ℕ = c.loop-at.at in
    let e : Entity = c.index.result.now in
    let h = c.loop-at.invariant in
    let s : IsStep list null at h.left = step list null at h.left h.chained (some_to_come h.left c.args.index h.here) in
    record {
      passed = h.passed ++ at ∷ [];
      left = s.after;
      parts = h.parts ∙ ap (λ xs. h.passed ++ xs) s.parts ∙ sym (append_assoc h.passed (at ∷ []) s.after);
      chained = subst (λ (i : ℕ). IsChain list null i s.after) (next_read list at e s.within c.index.ensures) s.chained;
      here = still_to_come h.left s.after at c.args.index s.parts c.loop-at-test.true h.here;
      last = (h.passed, refl);
    }

pub returns-clause-before : goal.returns-clause-before
returns-clause-before c =
    let list : List Entity = c.self.inside.list.items in
    let h = c.loop-at.invariant in
    let s : IsStep list c.self.inside.null c.loop-at.at h.left = step list c.self.inside.null c.loop-at.at h.left h.chained (some_to_come h.left c.args.index h.here) in
    let whole : c.args.self.now.free ≡ h.passed ++ c.args.index ∷ s.after =
    sym (ap (λ (v : Threaded). v.free) c.self.view_is) ∙ h.parts ∙ ap (λ xs. h.passed ++ xs) (s.parts ∙ ap (λ i. i ∷ s.after) c.loop-at-test.false) in
    right_before c.args.self.now.free h.passed s.after c.args.index c.loop-at.before whole h.last
