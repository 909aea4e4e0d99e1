-- Answers of calls as replies to commands.
use Rattle.std.proofs.Common.{ℕ, arith, ◌≡◌, ◌≢◌, ◌⊎◌, List, inl, inr, None, Some, Result, Ok, Err, OnOk, OnErr, IfOk, IfErr, IsTrue, sym, refl, ap, ◌∙◌, subst}
use Rattle.entity_id.specs.declared.entity.Entity.{Entity}
use Rattle.world_model.specs.declared.command.Command.{Command}
use Rattle.world_model.specs.declared.command.Command.TheVariants.{Clear}
use Rattle.world_model.specs.declared.command.Reply.{Reply}
use Rattle.world_model.specs.declared.command.Reply.TheVariants.{Refused}
use Rattle.world_model.specs.declared.refusal.Refusal.{Refusal}
use Rattle.world_model.specs.declared.refusal.Refusal.TheVariants as refusal
use Rattle.world_model.specs.declared.world.World.{World}
use Rattle.world_model.specs.Outcomes.{outcome_of}
use Rattle.world_model.proofs.StepLemmas.{step_cases}
use Rattle.registry.specs.Costs.{RunsWithin}
use Rattle.registry.specs.Held.{Held, Becomes, Does, AsBefore, reply_to, refusal_to}
use Rattle.registry.specs.Packing.{packed_after, Repacks, RepacksUnless}
use Rattle.world_model.specs.Groups.{packed_at}
use Rattle.registry.specs.Running.{may_want_memory, reply_by, IsRun}
use Rattle.registry.proofs.DoneLemmas.{same, refused}

pub want_or_cause : (e : Refusal) → (e ≡ refusal.OutOfMemory) ⊎ (e ≢ refusal.OutOfMemory)
want_or_cause refusal.OutOfMemory = inl refl
want_or_cause refusal.Dead = inr (λ q. cc)
want_or_cause refusal.Present = inr (λ q. cc)
want_or_cause refusal.Absent = inr (λ q. cc)
want_or_cause refusal.Full = inr (λ q. cc)
want_or_cause (refusal.Conflict group) = inr (λ q. cc)
want_or_cause (refusal.Owned group) = inr (λ q. cc)
want_or_cause refusal.TooMany = inr (λ q. cc)
want_or_cause refusal.NoPool = inr (λ q. cc)
want_or_cause refusal.BadDecl = inr (λ q. cc)
want_or_cause refusal.NoGroup = inr (λ q. cc)
want_or_cause (refusal.HasInner group) = inr (λ q. cc)
want_or_cause refusal.BadKey = inr (λ q. cc)
want_or_cause refusal.Unknown = inr (λ q. cc)

some_none : {X : Type 0} (x : X) → Some x ≡ None → ⊥
some_none x h = cc

-- a refused command did its step where all is as before
refused_step : (old new : Held) (command : Command) (cause : Refusal) → refusal_to old command ≡ Some cause → AsBefore old new → Does old new command
refused_step old new command cause h before =
    step_cases (λ o. Becomes old new o.world o.events) old.limit old.world command (λ _ _. before.unchanged) (λ none. absurd (some_none cause (sym h ∙ none)))

-- and was answered so
refused_run : (old new : Held) (command : Command) (cause : Refusal) → refusal_to old command ≡ Some cause → AsBefore old new → IsRun old new command (Refused cause)
refused_run old new command cause h before = inl (refused_step old new command cause h before, subst (λ o. RepacksUnless o old new command) (sym h) before.packed, sym (refused old command cause h).1)

-- what a reply that is no refusal says of the command
not_refused : (held : Held) (command : Command) (reply : Reply) → ((cause : Refusal) → reply ≡ Refused cause → ⊥) → reply_to held command ≡ reply → refusal_to held command ≡ None
not_refused held command reply told is = elim (refusal_to held command) as (λ o. refusal_to held command ≡ o → o ≡ None) [
  | None ↦ λ h. refl
  | Some cause ↦ λ h. absurd (told cause (sym is ∙ (refused held command cause h).1))
] refl

-- a command that isn't refused did its step, and was answered so
pub done_run : (old new : Held) (command : Command) (reply : Reply) → ((cause : Refusal) → reply ≡ Refused cause → ⊥) → Does old new command → Repacks old new command → reply_to old command ≡ reply → IsRun old new command reply
done_run old new command reply told does packs is =
    inl (does, subst (λ o. RepacksUnless o old new command) (sym (not_refused old command reply told is)) packs, sym is)

-- of a call that may want memory where it answers so
pub ran_where : {A : Type 0} (old new : Held) (command : Command) (r : Result A Refusal) (reply : A → Reply) → ((x : A) (cause : Refusal) → reply x ≡ Refused cause → ⊥) → (r ≡ Err refusal.OutOfMemory → IsTrue (may_want_memory old command))
    → OnOk r (Does old new command) → OnOk r (Repacks old new command) → IfOk r (λ x. reply_to old command ≡ reply x) → OnErr r (AsBefore old new)
    → IfErr r (λ cause. cause ≢ refusal.OutOfMemory → refusal_to old command ≡ Some cause) → ((cause : Refusal) → refusal_to old command ≡ Some cause → r ≡ Err cause) → IsRun old new command (reply_by reply r)
ran_where old new command (Ok x) reply told may does packs is before cause refused = done_run old new command (reply x) (told x) does packs is
ran_where {A = A} old new command (Err e) reply told may does packs is before cause refused = elim (refusal_to old command) as (λ o. refusal_to old command ≡ o → IsRun old new command (Refused e)) [
  | Some other ↦ λ h.
      let same : other ≡ e = same_err A other e (sym (refused other h)) in
      subst (λ r. IsRun old new command (Refused r)) same (refused_run old new command other h before)
  | None ↦ λ none. elim (want_or_cause e) [
    | inl want ↦ inr (may (ap Err want), none, ap Refused want, before)
    | inr not_want ↦ absurd (some_none e (sym (cause not_want) ∙ none))
  ]
] refl
  where
    same_err : (A : Type 0) (a b : Refusal) → ◌≡◌ {A = Result A Refusal} (Err a) (Err b) → a ≡ b
    same_err A a b h = cc

on_err : {A P : Type 0} (r : Result A Refusal) (e : Refusal) → OnErr r P → r ≡ Err e → P
on_err (Ok x) e h is = cc
on_err (Err x) e h is = h

-- of a call that may want memory
pub ran : {A : Type 0} (old new : Held) (command : Command) (r : Result A Refusal) (reply : A → Reply) → ((x : A) (cause : Refusal) → reply x ≡ Refused cause → ⊥) → OnErr r (IsTrue (may_want_memory old command))
    → OnOk r (Does old new command) → OnOk r (Repacks old new command) → IfOk r (λ x. reply_to old command ≡ reply x) → OnErr r (AsBefore old new)
    → IfErr r (λ cause. cause ≢ refusal.OutOfMemory → refusal_to old command ≡ Some cause) → ((cause : Refusal) → refusal_to old command ≡ Some cause → r ≡ Err cause) → IsRun old new command (reply_by reply r)
ran old new command r reply told may = ran_where old new command r reply told (on_err r refusal.OutOfMemory may)

-- of a call that takes none
pub ran_always : {A : Type 0} (old new : Held) (command : Command) (r : Result A Refusal) (reply : A → Reply) → ((x : A) (cause : Refusal) → reply x ≡ Refused cause → ⊥) → Does old new command
    → OnOk r (Repacks old new command) → IfOk r (λ x. reply_to old command ≡ reply x) → OnErr r (AsBefore old new) → IfErr r (λ cause. refusal_to old command ≡ Some cause) → IsRun old new command (reply_by reply r)
ran_always old new command (Ok x) reply told does packs is before cause = done_run old new command (reply x) (told x) does packs is
ran_always old new command (Err e) reply told does packs is before cause = refused_run old new command e cause before

-- a question leaves the packed lists
pub repacked : (held : Held) (command : Command) → held.packed ≡ packed_after held command → Repacks held held command
repacked held command is = record { each = refl; lists = record { still = λ pool _. ap (λ (packed : List (List Entity)). packed_at packed pool) is } }

-- a command whose outcome leaves the world and tells nothing does so, refused or not
pub asked : (held : Held) (command : Command) → Becomes held held (outcome_of held.limit held.world command).world (outcome_of held.limit held.world command).events → Does held held command
asked held command stays = step_cases (λ o. Becomes held held o.world o.events) held.limit held.world command (λ _ _. (same held).unchanged) (λ _. stays)

-- of a question
pub answered : {A : Type 0} (held : Held) (command : Command) (r : Result A Refusal) (reply : A → Reply) → ((x : A) (cause : Refusal) → reply x ≡ Refused cause → ⊥)
    → Becomes held held (outcome_of held.limit held.world command).world (outcome_of held.limit held.world command).events → Repacks held held command
    → IfOk r (λ x. reply_to held command ≡ reply x) → IfErr r (λ cause. reply_to held command ≡ Refused cause) → IsRun held held command (reply_by reply r)
answered held command (Ok x) reply told stays packs is cause = done_run held held command (reply x) (told x) (asked held command stays) packs is
answered held command (Err e) reply told stays packs is cause = inl (asked held command stays, packs_so, sym cause)
  where
    packs_so : RepacksUnless (refusal_to held command) held held command
    packs_so = elim (refusal_to held command) as (λ o. RepacksUnless o held held command) [ None ↦ packs | Some other ↦ refl ]

-- where nothing is counted, it is within what any command may count
pub none_counted : (w : World) (command : Command) (steps : ℕ) → RunsWithin w command steps steps
none_counted w (Clear pool) steps = λ depth low. omega arith
none_counted w _ steps = omega arith
