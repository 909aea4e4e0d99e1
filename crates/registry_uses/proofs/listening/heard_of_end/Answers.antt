use Rattle.std.proofs.Common.{◌≡◌, ◌∙◌, [], ◌∷◌, ◌++◌, Some, ◌≢◌, rules, refl, ap, map}
use Rattle.std.proofs.lemmas.Bool.{both_ways}
use Rattle.signal_sink.specs.Hearings.{Hearing, heard_lists}
use Rattle.world_model.specs.declared.command.Command.TheVariants.{Destroy}
use Rattle.world_model.specs.declared.event.EventKind.TheVariants as event
use Rattle.world_model.specs.declared.refusal.Refusal.TheVariants.{Dead, OutOfMemory, TooMany}
use Rattle.world_model.specs.Orders.{is_refused}
use Rattle.registry.specs.Listeners.{listeners_at}
use Rattle.registry_uses.specs.declared.beginning.TheConstants.{POSITION}
use Rattle.registry_uses.specs.Scenes.{IsScene}
use Rattle.registry.specs.Packing.{popped}
use Rattle.registry_uses.proofs.PackedLemmas.{nothing_moves}
use Rattle.registry_uses.proofs.RecorderLemmas.{heard_of_place, one_used, still_connected}
use Rattle.registry_uses.proofs.SceneLemmas.{dead_reply, scene_after, scene_stays, was_done}
use Rattle.registry_uses.proofs.listening.heard_of_end.Goals as goal

pub returns-in_err-recorder-clause-scene : goal.returns-in_err-recorder-clause-scene
returns-in_err-recorder-clause-scene g c =
    let heard : IsScene c.connect.new.self = scene_stays c.args.registry.now c.connect.new.self c.requires c.in-Ok.ensures.rewired.limit c.in-Ok.ensures.rewired.world in
    let gone : IsScene c.destroy-ended.new.self = scene_after c.connect.new.self c.destroy-ended.new.self (Destroy c.args.entity) heard refl c.destroy-ended.ensures.does in
    scene_stays c.destroy-ended.new.self c.disconnect.new.self gone c.disconnect.ensures.rewired.limit c.disconnect.ensures.rewired.world

pub returns-in_err-ended-clause-scene : goal.returns-in_err-ended-clause-scene
returns-in_err-ended-clause-scene g c =
    let heard : IsScene c.connect.new.self = scene_stays c.args.registry.now c.connect.new.self c.requires c.in-Ok.ensures.rewired.limit c.in-Ok.ensures.rewired.world in
    let gone : IsScene c.destroy-ended.new.self = scene_after c.connect.new.self c.destroy-ended.new.self (Destroy c.args.entity) heard refl c.destroy-ended.ensures.does in
    scene_stays c.destroy-ended.new.self c.disconnect.new.self gone c.disconnect.ensures.rewired.limit c.disconnect.ensures.rewired.world

pub returns-clause-scene : goal.returns-clause-scene
returns-clause-scene g c =
    let heard : IsScene c.connect.new.self = scene_stays c.args.registry.now c.connect.new.self c.requires c.in-Ok.ensures.rewired.limit c.in-Ok.ensures.rewired.world in
    let gone : IsScene c.destroy-ended.new.self = scene_after c.connect.new.self c.destroy-ended.new.self (Destroy c.args.entity) heard refl c.destroy-ended.ensures.does in
    scene_stays c.destroy-ended.new.self c.disconnect.new.self gone c.disconnect.ensures.rewired.limit c.disconnect.ensures.rewired.world

pub returns-clause-heard : goal.returns-clause-heard
returns-clause-heard g c =
    let connected : heard_lists (listeners_at c.connect.new.self event.Destroy POSITION) ≡ heard_lists (listeners_at c.args.registry.now event.Destroy POSITION) ++ Some [] ∷ [] = c.in-Ok.ensures.heard ∙ ap (λ (h : Hearing). heard_lists (listeners_at c.args.registry.now event.Destroy POSITION) ++ Some h.heard ∷ []) c.new.ensures in
    let done = was_done c.connect.new.self c.destroy-ended.new.self (Destroy c.args.entity) c.destroy-ended.ensures.does (ap is_refused c.in_ok-ended.ensures.ok) in
    heard_of_place c.args.registry.now c.connect.new.self c.destroy-ended.new.self c.args.entity c.in-Ok.number c.in_ok-recorder.recorder c.requires c.law.ensures.world c.in-Ok.ensures.rewired.world c.in-Ok.ensures.number connected c.destroy-ended.ensures.does done.passes c.in_ok-recorder.ensures.listener

pub returns-in_err-recorder-clause-cause : goal.returns-in_err-recorder-clause-cause
returns-in_err-recorder-clause-cause g c =
    let connected : heard_lists (listeners_at c.connect.new.self event.Destroy POSITION) ≡ heard_lists (listeners_at c.args.registry.now event.Destroy POSITION) ++ Some [] ∷ [] = c.in-Ok.ensures.heard ∙ ap (λ (h : Hearing). heard_lists (listeners_at c.args.registry.now event.Destroy POSITION) ++ Some h.heard ∷ []) c.new.ensures in
    absurd (both_ways _ c.in_err-recorder.ensures.unknown (still_connected c.args.registry.now c.connect.new.self c.destroy-ended.new.self c.args.entity c.in-Ok.number c.in-Ok.ensures.number connected c.destroy-ended.ensures.does))

pub returns-in_err-recorder-clause-err : goal.returns-in_err-recorder-clause-err
returns-in_err-recorder-clause-err g c =
    let connected : heard_lists (listeners_at c.connect.new.self event.Destroy POSITION) ≡ heard_lists (listeners_at c.args.registry.now event.Destroy POSITION) ++ Some [] ∷ [] = c.in-Ok.ensures.heard ∙ ap (λ (h : Hearing). heard_lists (listeners_at c.args.registry.now event.Destroy POSITION) ++ Some h.heard ∷ []) c.new.ensures in
    absurd (both_ways _ c.in_err-recorder.ensures.unknown (still_connected c.args.registry.now c.connect.new.self c.destroy-ended.new.self c.args.entity c.in-Ok.number c.in-Ok.ensures.number connected c.destroy-ended.ensures.does))

pub returns-in_err-ended-clause-cause : goal.returns-in_err-ended-clause-cause
returns-in_err-ended-clause-cause g c =
    let dead = dead_reply c.connect.new.self.limit c.connect.new.self.world c.args.entity c.in_err-ended.field-0.0 c.in_err-ended.ensures.err in
    let cause : c.in_err-ended.field-0.0 ≢ Dead → c.in_err-ended.field-0.0 ≢ TooMany → c.in_err-ended.field-0.0 ≡ OutOfMemory = λ other _. absurd (other dead) in
    search (rules, cause)

pub returns-clause-used : goal.returns-clause-used
returns-clause-used g c =
    let connected : heard_lists (listeners_at c.connect.new.self event.Destroy POSITION) ≡ heard_lists (listeners_at c.args.registry.now event.Destroy POSITION) ++ Some [] ∷ [] = c.in-Ok.ensures.heard ∙ ap (λ (h : Hearing). heard_lists (listeners_at c.args.registry.now event.Destroy POSITION) ++ Some h.heard ∷ []) c.new.ensures in
    one_used c.args.registry.now c.connect.new.self c.destroy-ended.new.self c.disconnect.new.self c.args.entity c.in-Ok.number connected c.destroy-ended.ensures.does c.in_ok-recorder.ensures.gone

pub returns-in_err-ended-clause-used_by_dead : goal.returns-in_err-ended-clause-used_by_dead
returns-in_err-ended-clause-used_by_dead g c =
    let connected : heard_lists (listeners_at c.connect.new.self event.Destroy POSITION) ≡ heard_lists (listeners_at c.args.registry.now event.Destroy POSITION) ++ Some [] ∷ [] = c.in-Ok.ensures.heard ∙ ap (λ (h : Hearing). heard_lists (listeners_at c.args.registry.now event.Destroy POSITION) ++ Some h.heard ∷ []) c.new.ensures in
    let used = one_used c.args.registry.now c.connect.new.self c.destroy-ended.new.self c.disconnect.new.self c.args.entity c.in-Ok.number connected c.destroy-ended.ensures.does c.in_ok-recorder.ensures.gone in
    search (rules, used)

pub returns-in_err-recorder-clause-same_order : goal.returns-in_err-recorder-clause-same_order
returns-in_err-recorder-clause-same_order g c =
    let connected : heard_lists (listeners_at c.connect.new.self event.Destroy POSITION) ≡ heard_lists (listeners_at c.args.registry.now event.Destroy POSITION) ++ Some [] ∷ [] = c.in-Ok.ensures.heard ∙ ap (λ (h : Hearing). heard_lists (listeners_at c.args.registry.now event.Destroy POSITION) ++ Some h.heard ∷ []) c.new.ensures in
    absurd (both_ways _ c.in_err-recorder.ensures.unknown (still_connected c.args.registry.now c.connect.new.self c.destroy-ended.new.self c.args.entity c.in-Ok.number c.in-Ok.ensures.number connected c.destroy-ended.ensures.does))

pub returns-clause-packed : goal.returns-clause-packed
returns-clause-packed g c =
    let heard : IsScene c.connect.new.self = scene_stays c.args.registry.now c.connect.new.self c.requires c.in-Ok.ensures.rewired.limit c.in-Ok.ensures.rewired.world in
    let gone = c.packing_without_groups.ensures c.connect.new.self c.destroy-ended.new.self (Destroy c.args.entity) (nothing_moves c.connect.new.self (Destroy c.args.entity) heard.groups refl) c.in_ok-ended.ensures.packed in
    c.disconnect.ensures.rewired.packed ∙ gone ∙ ap (map (popped c.args.entity)) c.in-Ok.ensures.rewired.packed
