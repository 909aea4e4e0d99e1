use Rattle.std.proofs.Common.{◌≡◌, ◌≤◌, false, List, length, Some, None, slice_get, refl, sym, ap, subst, ◌∙◌}
use Rattle.std.specs.Option.{option_map_or}
use Rattle.std.proofs.lemmas.Option.{slice_get_read, slice_get_past}
use Rattle.entity_id.specs.declared.entity.Entity.{Entity}
use Rattle.entity_id.specs.Identifiers.{is_same}
use Rattle.world_model.specs.Slots.{is_live}
use Rattle.entity_slots.specs.Threads.{Threaded}
use Rattle.entity_slots.proofs.ShownLemmas.{live_shown}
use Rattle.entity_slots.proofs.identifiers.Identifiers.is_live.Goals as goal

pub returns-in-Some : goal.returns-in-Some
returns-in-Some c =
    let value : Threaded = c.args.self.now in
    let entity : Entity = c.args.entity in
    let e : Entity = c.in-Some.found.now in
    let look = c.in-Some.ensures.lookup in
    let here : slice_get c.self.inside.list.items entity.index ≡ Some e =
    subst (λ (xs : List Entity). slice_get xs entity.index ≡ Some e) c.deref.ensures.value (slice_get_read c.deref.result.now (length c.deref.result.now) entity.index e refl look.3.0 look.1) in
    let live : is_live value.slots entity ≡ is_same e entity =
    live_shown c.self.inside value c.self.view_is entity ∙ ap (λ o. option_map_or (λ (it : Entity). is_same it entity) o false) here in
    c.eq.ensures ∙ sym live

pub returns-in-None : goal.returns-in-None
returns-in-None c =
    let value : Threaded = c.args.self.now in
    let entity : Entity = c.args.entity in
    let here : slice_get c.self.inside.list.items entity.index ≡ None =
    slice_get_past c.self.inside.list.items entity.index (subst (λ (xs : List Entity). length xs ≤ entity.index) c.deref.ensures.value c.in-None.ensures.lookup.3) in
    let dead : is_live value.slots entity ≡ false =
    live_shown c.self.inside value c.self.view_is entity ∙ ap (λ o. option_map_or (λ (it : Entity). is_same it entity) o false) here in
    sym dead
