use Rattle.std.proofs.Common.{◌≡◌, None, Err, refl, ap, ◌∙◌}
use Rattle.entity_slots.specs.declared.refused.CreateRefused.{CreateRefused}
use Rattle.world_model.specs.declared.command.Command.TheVariants.{Create}
use Rattle.world_model.specs.declared.refusal.Refusal.TheVariants as refusal
use Rattle.world_model.specs.Refusing.{refuse}
use Rattle.registry.specs.Held.{refusal_to}
use Rattle.registry.specs.Layout.{held_of}
use Rattle.registry.proofs.DoneLemmas.{did, stayed, with_slots, slots_changed, slots_stayed}
use Rattle.registry.proofs.PackingLemmas.{repacks_none}
use Rattle.registry.proofs.SlotRoomLemmas.{slots_spend, never_wants}
use Rattle.registry.proofs.parts.creation.create.Goals as goal

pub returns-in-Ok-clause-consistent : goal.returns-in-Ok-clause-consistent
returns-in-Ok-clause-consistent g c =
    let old = c.args.parts.now in
    let passes : refusal_to (held_of old) Create ≡ None = ap (λ b. refuse b refusal.Full) c.in-Ok.ensures.room in
    (did old (with_slots old c.create.new.self) Create c.requires tt passes (slots_changed old c.create.new.self _ _ c.requires c.in-Ok.ensures.lists)).0

pub returns-in-Ok-clause-ok : goal.returns-in-Ok-clause-ok
returns-in-Ok-clause-ok g c =
    let old = c.args.parts.now in
    let passes : refusal_to (held_of old) Create ≡ None = ap (λ b. refuse b refusal.Full) c.in-Ok.ensures.room in
    (did old (with_slots old c.create.new.self) Create c.requires tt passes (slots_changed old c.create.new.self _ _ c.requires c.in-Ok.ensures.lists)).1

pub returns-in-Err-Full-clause-err : goal.returns-in-Err-Full-clause-err
returns-in-Err-Full-clause-err g c = (stayed c.args.parts.now _ c.requires (slots_stayed c.args.parts.now c.create.new.self c.requires c.in-Err-Full.ensures.err)).1

pub returns-in-Err-OutOfMemory-clause-err : goal.returns-in-Err-OutOfMemory-clause-err
returns-in-Err-OutOfMemory-clause-err g c = (stayed c.args.parts.now _ c.requires (slots_stayed c.args.parts.now c.create.new.self c.requires c.in-Err-OutOfMemory.ensures.err)).1

pub returns-in-Ok-clause-packed : goal.returns-in-Ok-clause-packed
returns-in-Ok-clause-packed g c = repacks_none (held_of c.args.parts.now) (held_of (with_slots c.args.parts.now c.create.new.self)) Create refl refl

pub returns-in-Ok-clause-spends : goal.returns-in-Ok-clause-spends
returns-in-Ok-clause-spends g c = slots_spend c.args.parts.now c.create.new.self c.create.ensures.spare

pub returns-in-Err-Full-clause-spends : goal.returns-in-Err-Full-clause-spends
returns-in-Err-Full-clause-spends g c = slots_spend c.args.parts.now c.create.new.self c.create.ensures.spare

pub returns-in-Err-OutOfMemory-clause-spends : goal.returns-in-Err-OutOfMemory-clause-spends
returns-in-Err-OutOfMemory-clause-spends g c = slots_spend c.args.parts.now c.create.new.self c.create.ensures.spare

pub returns-in-Err-OutOfMemory-clause-never : goal.returns-in-Err-OutOfMemory-clause-never
returns-in-Err-OutOfMemory-clause-never g c enough _ =
    never_wants c.args.parts.now.slots c.create.result (c.in-Err-OutOfMemory.is ∙ ap (λ (e : CreateRefused). Err e) c.in-Err-OutOfMemory.field-0-is) c.create.ensures.reserved c.create.ensures.full c.in-Err-OutOfMemory.ensures.reuse enough
