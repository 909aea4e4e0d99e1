use Rattle.std.proofs.Common.{◌≡◌, ◌&&◌, true, None, refl, ap, ◌∙◌, rules}
use Rattle.world_model.specs.declared.command.Command.TheVariants.{Hint}
use Rattle.world_model.specs.declared.refusal.Refusal.TheVariants as refusal
use Rattle.world_model.specs.Refusing.{refuse}
use Rattle.world_model.specs.Slots.{is_full, is_plain_hint}
use Rattle.registry.specs.Held.{refusal_to}
use Rattle.registry.specs.Layout.{held_of, world_of}
use Rattle.registry.proofs.DoneLemmas.{did, stayed, with_slots, slots_changed, slots_stayed}
use Rattle.registry.proofs.HintLemmas.{hint_refusal, refused_needs}
use Rattle.registry.proofs.PackingLemmas.{repacks_none}
use Rattle.registry.proofs.parts.creation.create_hint.Goals as goal

pub returns-in-Ok-clause-consistent : goal.returns-in-Ok-clause-consistent
returns-in-Ok-clause-consistent g c =
    let old = c.args.parts.now in
    let passes : refusal_to (held_of old) (Hint c.args.hint) ≡ None = hint_refusal old.slots.limit (world_of old) c.args.hint ∙ ap (λ b. refuse b refusal.Full) c.in-Ok.ensures.room in
    (did old (with_slots old c.create_hint.new.self) (Hint c.args.hint) c.requires tt passes (slots_changed old c.create_hint.new.self _ _ c.requires c.in-Ok.ensures.lists)).0

pub returns-in-Ok-clause-ok : goal.returns-in-Ok-clause-ok
returns-in-Ok-clause-ok g c =
    let old = c.args.parts.now in
    let passes : refusal_to (held_of old) (Hint c.args.hint) ≡ None = hint_refusal old.slots.limit (world_of old) c.args.hint ∙ ap (λ b. refuse b refusal.Full) c.in-Ok.ensures.room in
    (did old (with_slots old c.create_hint.new.self) (Hint c.args.hint) c.requires tt passes (slots_changed old c.create_hint.new.self _ _ c.requires c.in-Ok.ensures.lists)).1

pub returns-in-Err-Full-clause-err : goal.returns-in-Err-Full-clause-err
returns-in-Err-Full-clause-err g c = (stayed c.args.parts.now _ c.requires (slots_stayed c.args.parts.now c.create_hint.new.self c.requires c.in-Err-Full.ensures.err)).1

pub returns-in-Err-OutOfMemory-clause-err : goal.returns-in-Err-OutOfMemory-clause-err
returns-in-Err-OutOfMemory-clause-err g c = (stayed c.args.parts.now _ c.requires (slots_stayed c.args.parts.now c.create_hint.new.self c.requires c.in-Err-OutOfMemory.ensures.err)).1

pub returns-in-Err-Full-clause-cause : goal.returns-in-Err-Full-clause-cause
returns-in-Err-Full-clause-cause g c other =
    let old = c.args.parts.now in
    let full : (is_plain_hint old.slots.profile old.slots.limit old.slots.slots c.args.hint && is_full old.slots.limit old.slots.slots old.slots.free) ≡ true = search rules in
    hint_refusal old.slots.limit (world_of old) c.args.hint ∙ ap (λ b. refuse b refusal.Full) full

pub returns-in-Err-Full-clause-reuse : goal.returns-in-Err-Full-clause-reuse
returns-in-Err-Full-clause-reuse g c = refused_needs c.args.parts.now.slots c.args.hint c.in-Err-Full.ensures.reuse c.in-Err-Full.ensures.taken

pub returns-in-Err-OutOfMemory-clause-reuse : goal.returns-in-Err-OutOfMemory-clause-reuse
returns-in-Err-OutOfMemory-clause-reuse g c = refused_needs c.args.parts.now.slots c.args.hint c.in-Err-OutOfMemory.ensures.reuse c.in-Err-OutOfMemory.ensures.taken

pub returns-in-Ok-clause-packed : goal.returns-in-Ok-clause-packed
returns-in-Ok-clause-packed g c = repacks_none (held_of c.args.parts.now) (held_of (with_slots c.args.parts.now c.create_hint.new.self)) (Hint c.args.hint) refl refl
