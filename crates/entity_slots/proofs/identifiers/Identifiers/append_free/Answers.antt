use Rattle.std.proofs.Common.{◌≡◌, [], ◌∷◌, ◌++◌, length, refl, ap, arith}
use Rattle.std.specs.Vec.{vec_capacity}
use Rattle.world_model.specs.Slots.{free_slot}
use Rattle.entity_slots.specs.Threads.{Threaded}
use Rattle.entity_slots.specs.declared.identifiers.Identifiers.TheInside.{Inside}
use Rattle.entity_slots.proofs.ShownLemmas.{shown, threaded, shown_now, length_shown, appended_free_as}
use Rattle.entity_slots.proofs.identifiers.Identifiers.append_free.Goals as goal

pub push_reserved-requires : goal.push_reserved-requires
push_reserved-requires c =
    let value : Threaded = c.args.self.now in
    let room : vec_capacity c.self.inside.list ≡ value.room = ap (λ (v : Threaded). v.room) c.self.view_is in
    omega (arith, length_shown c.self.inside value c.self.view_is, c.self.inside.list.ok.0)

pub invariant_of-self : goal.invariant_of-self
invariant_of-self c =
    let old : Inside = c.self.inside in
    let value : Threaded = c.args.self.now in
    let new : Inside = record { list = c.push_reserved.new.self; top = c.len-index.result; null = old.null } in
    let null : old.null ≡ value.null = ap (λ (v : Threaded). v.null) c.self.view_is in
    let long = length_shown old value c.self.view_is in
    let last : c.len-index.result ≡ length old.list.items = omega (arith, old.list.ok.0) in
    threaded new (value.slots ++ free_slot 0 ∷ []) (length value.slots ∷ value.free) c.self.invariant.small
    (appended_free_as old.list.items old.null old.top value.slots value.free (shown old value c.self.invariant c.self.view_is) new.list.items c.len-index.result c.push_reserved.ensures.items last (omega arith))

pub returns : goal.returns
returns c =
    let old : Inside = c.self.inside in
    let value : Threaded = c.args.self.now in
    let new : Inside = record { list = c.push_reserved.new.self; top = c.len-index.result; null = old.null } in
    let null : old.null ≡ value.null = ap (λ (v : Threaded). v.null) c.self.view_is in
    let long = length_shown old value c.self.view_is in
    let last : c.len-index.result ≡ length old.list.items = omega (arith, old.list.ok.0) in
    shown_now old new value (value.slots ++ free_slot 0 ∷ []) (length value.slots ∷ value.free) c.self.view_is refl c.push_reserved.ensures.capacity
    (appended_free_as old.list.items old.null old.top value.slots value.free (shown old value c.self.invariant c.self.view_is) new.list.items c.len-index.result c.push_reserved.ensures.items last (omega arith))
