-- Calls against the steps of their commands.
use Rattle.std.proofs.Common.{◌≡◌, ℕ, true, false, cond, List, [], ◌∷◌, length, Option, Some, None, sym, refl, ap, ◌∙◌, subst, arith, Result, Ok, Err, OnOk, OnErr}
use Rattle.std.specs.List.{AllZip}
use Rattle.std.proofs.lemmas.List.{length-map}
use Rattle.entity_id.specs.FiniteMap as entries
use Rattle.entity_slots.specs.SlotLists.{SlotLists}
use Rattle.entity_slots.specs.SlotLists as slot_lists
use Rattle.storage.specs.Stored.{Stored}
use Rattle.world_model.specs.declared.slot.Slot.{Slot}
use Rattle.world_model.specs.declared.command.Command.{Command}
use Rattle.world_model.specs.declared.command.Command.TheVariants.{Remove}
use Rattle.entity_id.specs.declared.entity.Entity.{Entity}
use Rattle.world_model.specs.declared.command.Reply.TheVariants.{Done, Number, Refused}
use Rattle.world_model.specs.declared.component.Row.{Row}
use Rattle.world_model.specs.declared.event.Event.{Event}
use Rattle.world_model.specs.declared.event.EventKind.TheVariants as event
use Rattle.world_model.specs.declared.refusal.Refusal.{Refusal}
use Rattle.world_model.specs.declared.world.World.{World}
use Rattle.world_model.specs.Conditions.{IsAllowed}
use Rattle.world_model.specs.Outcomes.{Outcome, answers, drops, outcome_of}
use Rattle.world_model.specs.Contents.{has_row}
use Rattle.world_model.specs.Refusing.{refusal_of}
use Rattle.world_model.specs.Steps.{step, unless_refused}
use Rattle.world_model.specs.Worlds.{IsLawful}
use Rattle.world_model.proofs.StepLaw.{step_lawful}
use Rattle.world_model.proofs.StepLemmas.{step_same}
use Rattle.registry.specs.declared.parts.Parts.{Parts}
use Rattle.registry.specs.Held.{Held, Becomes, Does, AsBefore, reply_to, refusal_to}
use Rattle.registry.specs.Layout.{world_of, held_of, maps_of, IsKept, IsChanged, Gives, Stays}
use Rattle.registry.proofs.HeardLemmas.{hear_nothing}

pub length_all_zip : {A B : Type 0} (R : A → B → Type 0) (xs : List A) (ys : List B) → AllZip R xs ys → length ys ≡ length xs
length_all_zip R [] [] h = refl
length_all_zip R [] (y ∷ ys) h = absurd h
length_all_zip R (x ∷ xs) [] h = absurd h
length_all_zip R (x ∷ xs) (y ∷ ys) h = omega (arith, length_all_zip R xs ys h.1)

-- ---- what is kept

-- the parts keep what they have to, once they stand for a lawful world of the same components
pub kept_after : {L : Type 0} (old new : Parts L) (world : World) (events : List Event) → IsKept old → IsLawful old.slots.limit world → world.decls ≡ old.decls → world.profile ≡ old.slots.profile → IsChanged old new world events → IsKept new
kept_after old new world events h lawful decls profile change =
    let components : length old.decls ≡ length new.decls = ap length (sym decls) ∙ ap (λ (w : World). length w.decls) (sym change.becomes.world) in
    let now : IsLawful new.slots.limit (world_of new) = subst (λ n. IsLawful n (world_of new)) (sym change.becomes.limit) (subst (IsLawful old.slots.limit) (sym change.becomes.world) lawful) in
    record {
      lawful = now;
      profile = change.profile ∙ h.profile ∙ sym profile ∙ ap (λ (w : World). w.profile) (sym change.becomes.world);
      pool_each = sym (length-map new.pools.items (λ (s : Stored Row). entries.map_of s.pairs)) ∙ length_all_zip _ new.decls (maps_of new.pools.items) now.pools;
      construct_each = change.construct_each ∙ h.construct_each ∙ components;
      update_each = change.update_each ∙ h.update_each ∙ components;
      destroy_each = change.destroy_each ∙ h.destroy_each ∙ components;
      room = change.room;
      group_pools = change.group_pools ∙ h.group_pools ∙ components;
      grouped = change.grouped;
    }

-- ---- accepted

-- the step of a command that is not refused
pub accepted : (limit : ℕ) (w : World) (command : Command) → refusal_of limit w command ≡ None → step limit w command ≡ outcome_of limit w command
accepted limit w command h = ap (λ r. unless_refused w r (outcome_of limit w command)) h

-- a command that is not refused is done where the parts changed as its outcome says
pub did : {L : Type 0} (old new : Parts L) (command : Command) → IsKept old → IsAllowed (world_of old) command → refusal_to (held_of old) command ≡ None → Gives old new (outcome_of old.slots.limit (world_of old) command)
    → IsKept new × Does (held_of old) (held_of new) command
did old new command h ok passes change =
    let is = accepted old.slots.limit (world_of old) command passes in
    let lawful = subst (λ (o : Outcome). IsLawful old.slots.limit o.world) is (step_lawful old.slots.limit (world_of old) command h.lawful ok) in
    let decls = ap (λ (o : Outcome). o.world.decls) (sym is) ∙ (step_same old.slots.limit (world_of old) command).decls in
    let profile = ap (λ (o : Outcome). o.world.profile) (sym is) ∙ (step_same old.slots.limit (world_of old) command).profile in (
      kept_after old new _ _ h lawful decls profile change,
      subst (λ (o : Outcome). Becomes (held_of old) (held_of new) o.world o.events) (sym is) change.becomes,
    )

-- ---- refused

-- nothing changed
pub same : (held : Held) → AsBefore held held
same held = record {
  unchanged = record {
    limit = refl;
    world = refl;
    construct = hear_nothing event.Construct [] held.construct (λ n. refl);
    update = hear_nothing event.Update [] held.update (λ n. refl);
    destroy = hear_nothing event.Destroy [] held.destroy (λ n. refl);
  };
  packed = refl;
}

-- a refused command leaves all as it was, and is answered its cause
pub refused : (held : Held) (command : Command) (cause : Refusal) → refusal_to held command ≡ Some cause → Does held held command × (reply_to held command ≡ Refused cause)
refused held command cause h =
    let is : step held.limit held.world command ≡ answers held.world (Refused cause) = ap (λ r. unless_refused held.world r (outcome_of held.limit held.world command)) h in (
      subst (λ (o : Outcome). Becomes held held o.world o.events) (sym is) (same held).unchanged,
      ap (λ (o : Outcome). o.reply) is,
    )

-- where the world stays, so does what is kept
pub stayed : {L : Type 0} (old new : Parts L) → IsKept old → Stays old new → IsKept new × AsBefore (held_of old) (held_of new)
stayed old new h change = (kept_after old new (world_of old) [] h h.lawful refl refl change.unchanged, record { unchanged = change.unchanged.becomes; packed = change.packed })

-- ---- either

-- what is known of a call that did its command, or was refused
pub record IsFinished {L A : Type 0} (old new : Parts L) (command : Command) (result : Result A Refusal) : Type 0 where
  pub kept : IsKept new
  pub does : OnOk result (Does (held_of old) (held_of new) command)
  pub reply : OnOk result (reply_to (held_of old) command ≡ (outcome_of old.slots.limit (world_of old) command).reply)
  pub as_before : OnErr result (AsBefore (held_of old) (held_of new))

pub finished : {L A : Type 0} (old new : Parts L) (command : Command) (r : Result A Refusal) → IsKept old → IsAllowed (world_of old) command → OnOk r (refusal_to (held_of old) command ≡ None)
    → OnOk r (Gives old new (outcome_of old.slots.limit (world_of old) command)) → OnErr r (Stays old new) → IsFinished old new command r
finished old new command (Ok x) h ok passes change _ =
    let both = did old new command h ok passes change in
    record { kept = both.0; does = both.1; reply = ap (λ (o : Outcome). o.reply) (accepted old.slots.limit (world_of old) command passes); as_before = tt }
finished old new command (Err cause) h ok _ _ stays =
    let both = stayed old new h stays in
    record { kept = both.0; does = tt; reply = tt; as_before = both.1 }

-- of a command that its caller knew to be allowed and that found an entry, whose further cause alone is left
pub entry_finished : {L A : Type 0} (old new : Parts L) (command : Command) (r : Result A Refusal) (further : Option Refusal) → IsKept old → IsAllowed (world_of old) command → refusal_to (held_of old) command ≡ further → OnOk r (further ≡ None)
    → OnOk r (Gives old new (outcome_of old.slots.limit (world_of old) command)) → OnErr r (Stays old new) → IsFinished old new command r
entry_finished old new command r further h ok is passes change stays =
    finished old new command r h ok (subst (λ (o : Option Refusal). OnOk r (o ≡ None)) (sym is) passes) change stays

-- ---- the slots

-- the parts with other slots
abbrev pub with_slots : {L : Type 0} → Parts L → SlotLists → Parts L
with_slots old slots = record { profile = old.profile; decls = old.decls; slots = slots; pools = old.pools; groups = old.groups; construct = old.construct; update = old.update; destroy = old.destroy }

-- other slots, and all else as it was
pub slots_changed : {L : Type 0} (old : Parts L) (slots : SlotLists) (list : List Slot) (free : List ℕ) → IsKept old → slot_lists.Becomes old.slots slots list free
    → IsChanged old (with_slots old slots) (record (world_of old) { slots = list; free = free }) []
slots_changed old slots list free h to = record {
  becomes = record {
    limit = to.limit;
    world = λ i. record { profile = to.profile i; decls = old.decls; groups = old.groups.decls; tick = 0; slots = to.slots i; free = to.free i; pools = maps_of old.pools.items };
    construct = (same (held_of old)).unchanged.construct;
    update = (same (held_of old)).unchanged.update;
    destroy = (same (held_of old)).unchanged.destroy;
  };
  profile = refl;
  construct_each = refl;
  update_each = refl;
  destroy_each = refl;
  room = h.room;
  group_pools = refl;
  grouped = h.grouped;
}

-- where the lists are those of before, all is as before but for spare
pub slots_stayed : {L : Type 0} (old : Parts L) (slots : SlotLists) → IsKept old → slot_lists.Becomes old.slots slots old.slots.slots old.slots.free → Stays old (with_slots old slots)
slots_stayed old slots h to = record { unchanged = slots_changed old slots old.slots.slots old.slots.free h to; packed = refl }

-- ---- a row removed, or none there

-- whether or not a Remove found a row, it gives what its row's leaving does
pub removed : {L : Type 0} (old new : Parts L) (e : Entity) (pool : ℕ) → has_row (world_of old) pool e ≡ true → Gives old new (drops (world_of old) e pool Done) → Gives old new (outcome_of old.slots.limit (world_of old) (Remove e pool))
removed old new e pool held gone =
    subst (λ b. Gives old new (cond b (drops (world_of old) e pool (Number 1)) (answers (world_of old) (Number 0)))) (sym held) gone

pub not_removed : {L : Type 0} (old new : Parts L) (e : Entity) (pool : ℕ) → has_row (world_of old) pool e ≡ false → Stays old new → Gives old new (outcome_of old.slots.limit (world_of old) (Remove e pool))
not_removed old new e pool none stays =
    subst (λ b. Gives old new (cond b (drops (world_of old) e pool (Number 1)) (answers (world_of old) (Number 0)))) (sym none) stays.unchanged
