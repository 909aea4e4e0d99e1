-- Orders carried out one after another.
use Rattle.std.proofs.Common.{◌≡◌, ◌≢◌, ℕ, ℤ, ◌+◌, ◌<◌, ◌≤◌, Bool, true, false, cond, not, List, [], ◌∷◌, ◌++◌, take, length, get_or, Option, Some, None, slice_get, Result, Ok, Err, OnOk, IfErr, is_ok, refl, sym, ap, ◌∙◌, subst, arith}
use Rattle.std.specs.List.{AllByRecursion}
use Rattle.std.specs.Option.{option_or}
use Rattle.std.specs.Prelude.{is_some}
use Rattle.entity_id.specs.FiniteMap as entries
use Rattle.world_model.specs.declared.command.Command.TheVariants.{Patch}
use Rattle.world_model.specs.declared.component.Row.{Row}
use Rattle.world_model.specs.declared.deferred.Deferred.TheVariants.{Bear}
use Rattle.world_model.specs.Contents.{pool_at}
use Rattle.world_model.specs.Refusing.{refuse, when_absent, when_no_entry}
use Rattle.std.proofs.lemmas.List.{length-take-le, take_more}
use Rattle.std.proofs.Math.Seq.{take-length}
use Rattle.entity_id.proofs.ListLemmas.{all_at}
use Rattle.entity_id.specs.declared.entity.Entity.{Entity}
use Rattle.entity_id.specs.declared.entity.Profile.{Profile}
use Rattle.world_model.specs.declared.command.Command.{Command}
use Rattle.world_model.specs.declared.command.Reply.{Reply}
use Rattle.world_model.specs.declared.command.Reply.TheVariants.{Done, Refused}
use Rattle.world_model.specs.declared.component.Decl.{Decl}
use Rattle.world_model.specs.declared.deferred.Applied.{Applied}
use Rattle.world_model.specs.declared.deferred.Deferred.{Deferred}
use Rattle.world_model.specs.declared.refusal.Refusal.{Refusal}
use Rattle.world_model.specs.declared.refusal.Refusal.TheVariants as refusal
use Rattle.world_model.specs.declared.world.World.{World}
use Rattle.world_model.specs.Orders.{Progress, IsFitting, beginning, order_outcome, last_after, is_refused, apply, apply_all}
use Rattle.world_model.specs.Outcomes.{Outcome}
use Rattle.world_model.specs.Steps.{step}
use Rattle.world_model.proofs.OrderLaw.{orders-append, orders_same, orders_counted}
use Rattle.world_model.proofs.StepLemmas.{step_cases}
use Rattle.registry.specs.Applying.{outcome_in, IsCarriedOut, progress_in, Applies, AppliesFirst}
use Rattle.registry.specs.Held.{Held, Becomes, Does, AsBefore, reply_to, refusal_to}
use Rattle.registry.proofs.BothLemmas.{becomes_both, becomes_alone}
use Rattle.registry.proofs.DoneLemmas.{same, refused}

-- ---- one order

-- a command that isn't refused was done
pub carried_done : (old new : Held) (command : Command) (reply : Reply) → is_refused reply ≡ false → Does old new command → reply_to old command ≡ reply → IsCarriedOut old new (step old.limit old.world command) true
carried_done old new command reply fine does is = record { becomes = does; done = sym (ap (λ r. not (is_refused r)) is ∙ ap not fine) }

some_none : {X : Type 0} (x : X) → Some x ≡ None → ⊥
some_none x h = cc

-- one that is refused was skipped, where all is as before
pub carried_skipped : (old new : Held) (command : Command) (cause : Refusal) → refusal_to old command ≡ Some cause → AsBefore old new → IsCarriedOut old new (step old.limit old.world command) false
carried_skipped old new command cause h before = record {
  becomes = step_cases (λ (o : Outcome). Becomes old new o.world o.events) old.limit old.world command (λ _ _. before.unchanged) (λ none. absurd (some_none cause (sym h ∙ none)));
  done = sym (ap (λ r. not (is_refused r)) (refused old command cause h).1);
}

-- a refusal that isn't for want of memory has a cause
pub carried_refused : (old new : Held) (command : Command) (cause : Refusal) (done : Bool) → (cause ≢ refusal.OutOfMemory → refusal_to old command ≡ Some cause) → AsBefore old new → (done ≡ false) × (cause ≢ refusal.OutOfMemory)
    → IsCarriedOut old new (step old.limit old.world command) done
carried_refused old new command cause done of before is =
    subst (IsCarriedOut old new (step old.limit old.world command)) (sym is.0) (carried_skipped old new command cause (of is.1) before)

-- a call that takes no memory says whether its command was done
pub carried_by : {A : Type 0} (old new : Held) (command : Command) (r : Result A Refusal) (done : Bool) → done ≡ is_ok r → Does old new command → OnOk r (reply_to old command ≡ Done) → IfErr r (λ cause. reply_to old command ≡ Refused cause)
    → IsCarriedOut old new (step old.limit old.world command) done
carried_by old new command (Ok x) done is does fine _ = record { becomes = does; done = is ∙ sym (ap (λ r. not (is_refused r)) fine) }
carried_by old new command (Err cause) done is does _ told = record { becomes = does; done = is ∙ sym (ap (λ r. not (is_refused r)) told) }

-- an order is carried out as its outcome says, whichever order it was found to be
pub carried_as : (old new : Held) (last : Option Entity) (order same : Deferred) (done : Bool) → order ≡ same → IsCarriedOut old new (outcome_in old last same) done → IsCarriedOut old new (outcome_in old last order) done
carried_as old new last order same done is h = subst (λ o. IsCarriedOut old new (outcome_in old last o) done) (sym is) h

-- where there is no entry, nothing is set
pub entry_skipped : (held : Held) (e : Entity) (pool field : ℕ) (value : ℤ) (o : Option Refusal) → is_some o ≡ true → ((further : Option Refusal) → when_no_entry held.world pool e further ≡ option_or o further)
    → IsCarriedOut held held (step held.limit held.world (Patch e pool field value)) false
entry_skipped held e pool field value None h of = cc
entry_skipped held e pool field value (Some cause) h of = carried_skipped held held (Patch e pool field value) cause (of (when_absent held.world pool e)) (same held)

-- nor where there is no row
pub row_skipped : (held : Held) (e : Entity) (pool field : ℕ) (value : ℤ) (o : Option Refusal) → is_some o ≡ false → ((further : Option Refusal) → when_no_entry held.world pool e further ≡ option_or o further) → None ≡ entries.get (pool_at held.world pool) e
    → IsCarriedOut held held (step held.limit held.world (Patch e pool field value)) false
row_skipped held e pool field value (Some cause) h of none = cc
row_skipped held e pool field value None h of none =
    carried_skipped held held (Patch e pool field value) refusal.Absent (of (when_absent held.world pool e) ∙ ap (λ o. refuse (not (is_some o)) refusal.Absent) (sym none)) (same held)

-- nor is a row born where nothing was spawned
pub bear_skipped : (held : Held) (last : Option Entity) (order : Deferred) (pool : ℕ) (row : Row) → order ≡ Bear pool row → last ≡ None → IsCarriedOut held held (outcome_in held last order) false
bear_skipped held last order pool row is none =
    carried_as held held last order (Bear pool row) false is (subst (λ (l : Option Entity). IsCarriedOut held held (outcome_in held l (Bear pool row)) false) (sym none) (record { becomes = (same held).unchanged; done = refl }))

-- ---- orders one after another

-- the registry has come so far, with what was spawned last and how many orders were done and skipped
pub record StandsAt (old new : Held) (p : Progress) (spawned : Option Entity) (applied : Applied) : Type 0 where
  pub becomes : Becomes old new p.world p.events
  pub last : spawned ≡ p.last
  pub done : applied.done ≡ p.done
  pub skipped : applied.skipped ≡ p.skipped

pub at_beginning : (held : Held) → StandsAt held held (beginning held.world) None (record { done = 0; skipped = 0 })
at_beginning held = record { becomes = (same held).unchanged; last = refl; done = refl; skipped = refl }

-- each order is counted once
pub stands_counted : (old new : Held) (orders : List Deferred) (i : ℕ) (last : Option Entity) (applied : Applied) → i ≤ length orders → StandsAt old new (progress_in old (take i orders)) last applied → applied.done + applied.skipped ≡ i
stands_counted old new orders i last applied low h =
    let counted : (progress_in old (take i orders)).done + (progress_in old (take i orders)).skipped ≡ 0 + 0 + length (take i orders) = orders_counted old.limit (beginning old.world) (take i orders) in
    let done : applied.done ≡ (progress_in old (take i orders)).done = h.done in
    let skipped : applied.skipped ≡ (progress_in old (take i orders)).skipped = h.skipped in
    omega (arith, counted, done, skipped, length-take-le i orders low)

-- an order is fitting still
pub fits_still : (old mid : Held) (orders : List Deferred) (i : ℕ) (order : Deferred) (last : Option Entity) (applied : Applied) → AllByRecursion (IsFitting old.world.profile old.world.decls) orders → slice_get orders i ≡ Some order
    → StandsAt old mid (progress_in old (take i orders)) last applied → IsFitting mid.world.profile mid.world.decls order
fits_still old mid orders i order last applied fit here h =
    let keeps = orders_same old.limit (beginning old.world) (take i orders) in
    let profile : mid.world.profile ≡ old.world.profile = ap (λ (w : World). w.profile) h.becomes.world ∙ keeps.profile in
    let decls : mid.world.decls ≡ old.world.decls = ap (λ (w : World). w.decls) h.becomes.world ∙ keeps.decls in
    subst (λ (p : Profile). IsFitting p mid.world.decls order) (sym profile)
    (subst (λ (d : List Decl). IsFitting old.world.profile d order) (sym decls) (all_at (IsFitting old.world.profile old.world.decls) orders i order fit here))

cond_not : (b : Bool) → ◌≡◌ {A = ℕ} (cond (not b) 1 0) (cond b 0 1)
cond_not true = refl
cond_not false = refl

cond_not_not : (b : Bool) → ◌≡◌ {A = ℕ} (cond (not b) 0 1) (cond b 1 0)
cond_not_not true = refl
cond_not_not false = refl

-- one order more
progress_more : (old : Held) (orders : List Deferred) (i : ℕ) (none : Deferred) → i < length orders → progress_in old (take (i + 1) orders) ≡ apply old.limit (progress_in old (take i orders)) (get_or orders i none)
progress_more old orders i none low =
    ap (λ list. apply_all old.limit (beginning old.world) list) (take_more orders i none low) ∙ orders-append old.limit (beginning old.world) (take i orders) (get_or orders i none ∷ [])

pub stands_more : (old mid new : Held) (orders : List Deferred) (i : ℕ) (none : Deferred) (last last' : Option Entity) (applied applied' : Applied) (done : Bool) → i < length orders
    → StandsAt old mid (progress_in old (take i orders)) last applied → IsCarriedOut mid new (outcome_in mid last (get_or orders i none)) done → last' ≡ last_after last (get_or orders i none) (outcome_in mid last (get_or orders i none)).reply
    → applied'.done ≡ applied.done + cond done 1 0 → applied'.skipped ≡ applied.skipped + cond done 0 1
    → StandsAt old new (progress_in old (take (i + 1) orders)) last' applied'
stands_more old mid new orders i none last last' applied applied' done low so_far carried last_is done_is skipped_is =
    let order : Deferred = get_or orders i none in
    let p : Progress = progress_in old (take i orders) in
    let here : Outcome = outcome_in mid last order in
    let there : Outcome = order_outcome old.limit p.world p.last order in
    let alike : here ≡ there = λ j. order_outcome (so_far.becomes.limit j) (so_far.becomes.world j) (so_far.last j) order in
    subst (λ (q : Progress). StandsAt old new q last' applied') (sym (progress_more old orders i none low))
    (record {
      becomes = subst (λ (o : Outcome). Becomes old new o.world (p.events ++ o.events)) alike (becomes_both old mid new p.world here.world p.events here.events so_far.becomes carried.becomes);
      last = last_is ∙ (λ j. last_after (so_far.last j) order (alike j).reply);
      done = done_is ∙ (λ j. so_far.done j + cond (carried.done j) 1 0) ∙ ap (λ n. p.done + n) (cond_not (is_refused here.reply)) ∙ ap (λ (o : Outcome). p.done + cond (is_refused o.reply) 0 1) alike;
      skipped = skipped_is ∙ (λ j. so_far.skipped j + cond (carried.done j) 0 1) ∙ ap (λ n. p.skipped + n) (cond_not_not (is_refused here.reply)) ∙ ap (λ (o : Outcome). p.skipped + cond (is_refused o.reply) 1 0) alike;
    })

-- all were carried out
pub stands_last : (old new : Held) (orders : List Deferred) (last : Option Entity) (applied : Applied) → StandsAt old new (progress_in old (take (length orders) orders)) last applied → Applies old new orders applied
stands_last old new orders last applied h =
    let all : take (length orders) orders ≡ orders = take-length orders in
    let at = subst (λ (list : List Deferred). StandsAt old new (progress_in old list) last applied) all h in
    record { becomes = at.becomes; done = at.done; skipped = at.skipped }

-- the next one found no memory
pub stands_stopped : (old mid new : Held) (orders : List Deferred) (i after : ℕ) (last : Option Entity) (applied : Applied) → after ≡ i → StandsAt old mid (progress_in old (take i orders)) last applied → AsBefore mid new → AppliesFirst old new orders after
stands_stopped old mid new orders i after last applied is h before =
    subst (AppliesFirst old new orders) (sym is) (becomes_alone old mid new (progress_in old (take i orders)).world (progress_in old (take i orders)).events h.becomes before)
