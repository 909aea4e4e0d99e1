use Rattle.std.proofs.Common.{◌≡◌, ℕ, ◌≤◌, false, eqb, List, length, Some, None, slice_get, refl, sym, ap, subst, ◌∙◌}
use Rattle.std.specs.Option.{option_map_or}
use Rattle.std.proofs.lemmas.Option.{slice_get_read, slice_get_past}
use Rattle.entity_id.specs.declared.entity.Entity.{Entity}
use Rattle.world_model.specs.Slots.{is_live_at}
use Rattle.entity_slots.specs.Threads.{Threaded}
use Rattle.entity_slots.proofs.ShownLemmas.{live_at_shown}
use Rattle.entity_slots.proofs.identifiers.Identifiers.is_live_at.Goals as goal

pub returns-in-Some : goal.returns-in-Some
returns-in-Some c =
    let value : Threaded = c.args.self.now in
    let index : ℕ = c.args.index in
    let e : Entity = c.in-Some.found.now in
    let look = c.in-Some.ensures.lookup in
    let here : slice_get c.self.inside.list.items index ≡ Some e =
    subst (λ (xs : List Entity). slice_get xs index ≡ Some e) c.deref.ensures.value (slice_get_read c.deref.result.now (length c.deref.result.now) index e refl look.3.0 look.1) in
    let live : is_live_at value.slots index ≡ eqb e.index index =
    live_at_shown c.self.inside value c.self.view_is index ∙ ap (λ o. option_map_or (λ (it : Entity). eqb it.index index) o false) here in
    sym live

pub returns-in-None : goal.returns-in-None
returns-in-None c =
    let value : Threaded = c.args.self.now in
    let index : ℕ = c.args.index in
    let here : slice_get c.self.inside.list.items index ≡ None =
    slice_get_past c.self.inside.list.items index (subst (λ (xs : List Entity). length xs ≤ index) c.deref.ensures.value c.in-None.ensures.lookup.3) in
    let dead : is_live_at value.slots index ≡ false =
    live_at_shown c.self.inside value c.self.view_is index ∙ ap (λ o. option_map_or (λ (it : Entity). eqb it.index index) o false) here in
    sym dead
