use Rattle.std.proofs.Common.{◌<◌, List, length, refl, ap, ◌∙◌, arith}
use Rattle.std.specs.Option.{option_map}
use Rattle.std.proofs.lemmas.Option.{slice_get_read}
use Rattle.entity_id.specs.declared.entity.Entity.{Entity}
use Rattle.entity_slots.specs.Threads.{slot_at}
use Rattle.entity_slots.proofs.ShownLemmas.{length_shown, slot_shown}
use Rattle.entity_slots.proofs.identifiers.Identifiers.slot.Goals as goal

pub index-entity-requires : goal.index-entity-requires
index-entity-requires c = omega (arith, length_shown c.self.inside c.args.self.now c.self.view_is, c.requires, c.self.inside.list.ok.0)

pub returns : goal.returns
returns c =
    let list : List Entity = c.self.inside.list.items in
    let within : c.args.index < length list = omega (arith, length_shown c.self.inside c.args.self.now c.self.view_is, c.requires) in
    slot_shown c.self.inside c.args.self.now c.self.view_is c.args.index
    ∙ ap (option_map (slot_at c.args.index)) (slice_get_read list (length list) c.args.index c.index-entity.result.now refl within c.index-entity.ensures)
