-- What commands leave of a scene, and what it answers after them.
use Rattle.std.proofs.Common.{◌≡◌, ℕ, true, false, List, [], ◌∷◌, length, Option, Some, None, Ok, Err, OnOk, OnErr, IfOk, IfErr, is_ok, refl, sym, ap, ◌∙◌, subst, arith, rules}
use Rattle.std.proofs.lemmas.Bool.{both_ways}
use Rattle.std.specs.Prelude.{Result}
use Rattle.entity_id.specs.declared.entity.Entity.{Entity}
use Rattle.entity_id.specs.FiniteMap as rows
use Rattle.world_model.specs.declared.command.Command.{Command}
use Rattle.world_model.specs.declared.command.Command.TheVariants.{Destroy, Get}
use Rattle.world_model.specs.declared.command.Reply.{Reply}
use Rattle.world_model.specs.declared.command.Reply.TheVariants.{Refused, Values}
use Rattle.world_model.specs.declared.component.Decl.{Decl}
use Rattle.world_model.specs.declared.component.Row.{Row}
use Rattle.world_model.specs.declared.refusal.Refusal.{Refusal}
use Rattle.world_model.specs.declared.refusal.Refusal.TheVariants as refusal
use Rattle.world_model.specs.declared.world.World.{World}
use Rattle.world_model.specs.Components.{zero_row}
use Rattle.world_model.specs.Conditions.{IsAllowed}
use Rattle.world_model.specs.Contents.{pool_at, row_at}
use Rattle.world_model.specs.Groups.{are_declared}
use Rattle.world_model.specs.Orders.{is_refused}
use Rattle.world_model.specs.Outcomes.{Outcome, outcome_of}
use Rattle.world_model.specs.Refusing.{refusal_of, when_dead, when_no_entry}
use Rattle.world_model.specs.Slots.{is_live}
use Rattle.world_model.specs.Steps.{step}
use Rattle.world_model.specs.Worlds.{IsLawful}
use Rattle.world_model.proofs.AcceptedLemmas.{alive}
use Rattle.world_model.proofs.SlotLemmas.{released_dead}
use Rattle.world_model.proofs.StepLaw.{step_lawful}
use Rattle.world_model.proofs.StepLemmas.{step_cases, step_same}
use Rattle.registry.specs.Held.{Held, AsBefore, Does, reply_to, refusal_to, unheard}
use Rattle.registry.proofs.DoneLemmas.{accepted}
use Rattle.registry_uses.specs.declared.beginning.TheConstants.{SLOT_LIMIT}
use Rattle.registry_uses.specs.Scenes.{scene_components, IsScene}

-- ---- scenes

-- a scene at the same limit and world is one
pub scene_stays : (old new : Held) → IsScene old → new.limit ≡ old.limit → new.world ≡ old.world → IsScene new
scene_stays old new h limit world = record {
  limit = limit ∙ h.limit;
  decls = ap (λ (w : World). w.decls) world ∙ h.decls;
  groups = ap (λ (w : World). w.groups) world ∙ h.groups;
}

-- a step keeps the components
pub decls_after : (old new : Held) (command : Command) → Does old new command → new.world.decls ≡ old.world.decls
decls_after old new command does = ap (λ (w : World). w.decls) does.world ∙ (step_same old.limit old.world command).decls

-- and the groups, unless it adds one
pub groups_after : (old new : Held) (command : Command) → (outcome_of old.limit old.world command).world.groups ≡ old.world.groups → Does old new command → new.world.groups ≡ old.world.groups
groups_after old new command accepted_groups does =
    ap (λ (w : World). w.groups) does.world ∙ step_cases (λ o. o.world.groups ≡ old.world.groups) old.limit old.world command (λ _ _. refl) (λ _. accepted_groups)

-- so it keeps a scene
pub scene_after : (old new : Held) (command : Command) → IsScene old → (outcome_of old.limit old.world command).world.groups ≡ old.world.groups → Does old new command → IsScene new
scene_after old new command h accepted_groups does = record {
  limit = does.limit ∙ h.limit;
  decls = decls_after old new command does ∙ h.decls;
  groups = groups_after old new command accepted_groups does ∙ h.groups;
}

-- so does what leaves all as before
pub scene_as_before : (old new : Held) → IsScene old → AsBefore old new → IsScene new
scene_as_before old new h before = scene_stays old new h before.unchanged.limit before.unchanged.world

-- what was done or refused keeps a scene
pub scene_by : {A : Type 0} (old new : Held) (command : Command) (r : Result A Refusal) → IsScene old → (outcome_of old.limit old.world command).world.groups ≡ old.world.groups → OnOk r (Does old new command) → OnErr r (AsBefore old new) → IsScene new
scene_by old new command (Ok x) h groups does before = scene_after old new command h groups does
scene_by old new command (Err refused) h groups does before = scene_as_before old new h before

-- ---- the law

-- a step keeps a lawful world
pub lawful_after : (old new : Held) (command : Command) → IsLawful old.limit old.world → IsAllowed old.world command → Does old new command → IsLawful new.limit new.world
lawful_after old new command lawful allowed does =
    subst (λ (n : ℕ). IsLawful n new.world) (sym does.limit) (subst (λ (w : World). IsLawful old.limit w) (sym does.world) (step_lawful old.limit old.world command lawful allowed))

-- ---- answers

-- what isn't answered by a refusal isn't refused
pub accepted_by : (limit : ℕ) (w : World) (command : Command) → is_refused (step limit w command).reply ≡ false → refusal_of limit w command ≡ None
accepted_by limit w command = step_cases (λ o. is_refused o.reply ≡ false → refusal_of limit w command ≡ None) limit w command (λ cause _ h. absurd (both_ways _ h refl)) (λ k _. k)

-- the only cause with which a destruction is refused
pub dead_cause : (w : World) (e : Entity) (cause : Refusal) → when_dead w e ≡ Some cause → (cause ≡ refusal.Dead) × (is_live w.slots e ≡ false)
dead_cause w e cause h = (grind arith, grind arith)

-- an identifier is dead once its destruction was asked for
pub dead_after : (limit : ℕ) (w : World) (e : Entity) → is_live (step limit w (Destroy e)).world.slots e ≡ false
dead_after limit w e =
    step_cases (λ o. is_live o.world.slots e ≡ false) limit w (Destroy e)
    (λ cause k. (dead_cause w e cause k).1)
    (λ k. released_dead w.profile w.slots e (alive w e k))

-- a dead identifier has no row to tell
pub dead_is_told : (held : Held) (pool : ℕ) (e : Entity) → are_declared (length held.world.decls) (pool ∷ []) ≡ true → is_live held.world.slots e ≡ false → reply_to held (Get e pool) ≡ Refused refusal.Dead
dead_is_told held pool e declared dead = grind arith

-- a row that is there is told
pub row_is_told : (held : Held) (pool : ℕ) (e : Entity) (row : Row) → are_declared (length held.world.decls) (pool ∷ []) ≡ true → is_live held.world.slots e ≡ true → rows.get (pool_at held.world pool) e ≡ Some row → reply_to held (Get e pool) ≡ Values row
row_is_told held pool e row declared live there = grind arith

-- what was done was accepted, and its outcome is there
pub record WasDone (old new : Held) (command : Command) : Type 0 where
  pub passes : refusal_to old command ≡ None
  pub world : new.world ≡ (outcome_of old.limit old.world command).world

pub was_done : (old new : Held) (command : Command) → Does old new command → is_refused (reply_to old command) ≡ false → WasDone old new command
was_done old new command does answered =
    let passes = accepted_by old.limit old.world command answered in
    record { passes = passes; world = does.world ∙ ap (λ (o : Outcome). o.world) (accepted old.limit old.world command passes) }

-- a row that is told is the one that is there
pub told_is : (limit : ℕ) (w : World) (e : Entity) (pool : ℕ) (row : Row) → (step limit w (Get e pool)).reply ≡ Values row → row ≡ row_at w pool e
told_is limit w e pool row =
    step_cases (λ o. o.reply ≡ Values row → row ≡ row_at w pool e) limit w (Get e pool)
    (λ cause _ same. absurd (both_ways _ refl (ap is_refused (sym same))))
    (λ _ same. sym (ap values_of same))
  where
    values_of : Reply → Row
    values_of (Values row) = row
    values_of _ = zero_row

-- an entry of a declared component, of a live identifier, with no further cause
pub entry_passes : (w : World) (pool : ℕ) (e : Entity) (further : Option Refusal) → are_declared (length w.decls) (pool ∷ []) ≡ true → is_live w.slots e ≡ true → further ≡ None → when_no_entry w pool e further ≡ None
entry_passes w pool e further declared live none = grind arith

-- ---- a scene copied

-- a component of a scene
pub is_declared : (held : Held) (pool : ℕ) → IsScene held → are_declared (length scene_components) (pool ∷ []) ≡ true → are_declared (length held.world.decls) (pool ∷ []) ≡ true
is_declared held pool h declared = ap (λ (l : List Decl). are_declared (length l) (pool ∷ [])) h.decls ∙ declared

-- a destruction names its entity
destroyed_by : Entity → Command → Entity
destroyed_by other (Destroy e) = e
destroyed_by other _ = other

pub of_destroys : (a b : Entity) → Destroy a ≡ Destroy b → b ≡ a
unfolding destroyed_by
of_destroys a b same = sym (ap (destroyed_by a) same)

-- a command is answered the same at every tick
tick_ignored : (limit : ℕ) (w : World) (command : Command) → (step limit (record w { tick = 0 }) command).reply ≡ (step limit w command).reply
tick_ignored limit w command = search rules

-- what was saved at tick 0 and loaded answers as what it was saved from
pub copied_answers : (held : Held) (world : World) (packed : List (List Entity)) (command : Command) → IsScene held → world ≡ record held.world { tick = 0 } → reply_to (unheard SLOT_LIMIT (record world { tick = 0 }) packed) command ≡ reply_to held command
copied_answers held world packed command h is =
    ap (λ (w : World). (step SLOT_LIMIT (record w { tick = 0 }) command).reply) is
    ∙ ap (λ (limit : ℕ). (step limit (record held.world { tick = 0 }) command).reply) (sym h.limit)
    ∙ tick_ignored held.limit held.world command

-- ---- both of what a call says

pub if_both : {A E P : Type 0} {Q R : A → Type 0} (r : Result A E) → OnOk r P → IfOk r Q → ((x : A) → P → Q x → R x) → IfOk r R
if_both (Ok x) p q f = f x p q
if_both (Err e) p q f = tt

pub on_both : {A E P R : Type 0} {Q : A → Type 0} (r : Result A E) → OnOk r P → IfOk r Q → ((x : A) → P → Q x → R) → OnOk r R
on_both (Ok x) p q f = f x p q
on_both (Err e) p q f = tt

-- what holds after either answer
pub after_either : {A E P : Type 0} (r : Result A E) → OnOk r P → OnErr r P → P
after_either (Ok x) p q = p
after_either (Err e) p q = q

-- what holds of each refusal
pub if_refused : {A E P : Type 0} {R : E → Type 0} (r : Result A E) → OnErr r P → ((cause : E) → P → R cause) → IfErr r R
if_refused (Ok x) p f = tt
if_refused (Err cause) p f = f cause p

-- ---- a call that is never refused

pub done_by : {A E P : Type 0} (r : Result A E) → OnErr r ⊥ → OnOk r P → P
done_by (Ok x) never p = p
done_by (Err e) never p = absurd never

pub always_ok : {A E : Type 0} (r : Result A E) → OnErr r ⊥ → is_ok r ≡ true
always_ok (Ok x) never = refl
always_ok (Err e) never = absurd never

pub no_refusal : {A E : Type 0} (Q : E → Type 0) (r : Result A E) → OnErr r ⊥ → IfErr r Q
no_refusal Q (Ok x) never = tt
no_refusal Q (Err e) never = absurd never

-- a destruction is refused for one cause
pub dead_reply : (limit : ℕ) (w : World) (e : Entity) (cause : Refusal) → (step limit w (Destroy e)).reply ≡ Refused cause → cause ≡ refusal.Dead
dead_reply limit w e cause same = grind arith
