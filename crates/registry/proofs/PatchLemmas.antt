-- One field of a row set.
use Rattle.std.proofs.Common.{◌≡◌, ◌≢◌, ℕ, ℤ, not, inl, inr, Some, None, Result, Ok, Err, OnOk, OnErr, IfErr, sym, ap, ◌∙◌, subst}
use Rattle.std.specs.Prelude.{unwrap_or, is_some}
use Rattle.entity_id.specs.FiniteMap as entries
use Rattle.entity_id.specs.declared.entity.Entity.{Entity}
use Rattle.world_model.specs.declared.command.Command.TheVariants.{Patch}
use Rattle.world_model.specs.declared.component.Row.{Row}
use Rattle.world_model.specs.declared.event.EventKind.TheVariants as event
use Rattle.world_model.specs.declared.refusal.Refusal.{Refusal}
use Rattle.world_model.specs.declared.refusal.Refusal.TheVariants as refusal
use Rattle.world_model.specs.declared.world.World.{World}
use Rattle.world_model.specs.Components.{with_field, zero_row}
use Rattle.world_model.specs.Conditions.{IsAllowed}
use Rattle.world_model.specs.Contents.{pool_at, row_at}
use Rattle.world_model.specs.Outcomes.{sets}
use Rattle.world_model.specs.Refusing.{refuse, when_absent}
use Rattle.registry.specs.declared.parts.Parts.{Parts}
use Rattle.registry.specs.Held.{refusal_to}
use Rattle.registry.specs.Layout.{world_of, held_of, IsKept, Gives, Stays}
use Rattle.registry.proofs.DoneLemmas.{IsFinished, finished}
use Rattle.registry.proofs.ResultLemmas.{all_ok}
use Rattle.registry.proofs.RunLemmas.{want_or_cause}

-- the row that was found
pub row_found : (w : World) (pool : ℕ) (e : Entity) (row : Row) → entries.get (pool_at w pool) e ≡ Some row → row_at w pool e ≡ row
row_found w pool e row found = ap (λ o. unwrap_or o zero_row) found

-- it was set with another value in one field, or memory ran out
pub patched : {L A : Type 0} (old new : Parts L) (e : Entity) (pool field : ℕ) (value : ℤ) (row put : Row) (r : Result A Refusal) → IsKept old → IsAllowed (world_of old) (Patch e pool field value) → refusal_to (held_of old) (Patch e pool field value) ≡ None
    → entries.get (pool_at (world_of old) pool) e ≡ Some row → put ≡ with_field row field value → OnOk r (Gives old new (sets event.Update (world_of old) e pool put)) → OnErr r (Stays old new) → IsFinished old new (Patch e pool field value) r
patched old new e pool field value row put r h ok passes found is change stays =
    let row_is : put ≡ with_field (row_at (world_of old) pool e) field value = is ∙ ap (λ (r : Row). with_field r field value) (sym (row_found (world_of old) pool e row found)) in
    finished old new (Patch e pool field value) r h ok (all_ok r passes) (subst (λ (v : Row). OnOk r (Gives old new (sets event.Update (world_of old) e pool v))) row_is change) stays

some_none : {X : Type 0} (x : X) → Some x ≡ None → ⊥
some_none x h = cc

-- nothing else was in its way
pub only_want : {A : Type 0} (w : World) (pool : ℕ) (e : Entity) (row : Row) (r : Result A Refusal) → entries.get (pool_at w pool) e ≡ Some row → IfErr r (λ cause. cause ≢ refusal.OutOfMemory → when_absent w pool e ≡ Some cause)
    → IfErr r (λ cause. cause ≡ refusal.OutOfMemory)
only_want w pool e row (Ok x) found h = tt
only_want w pool e row (Err cause) found h = elim (want_or_cause cause) [
  | inl want ↦ want
  | inr apart ↦ absurd (some_none cause (sym (h apart) ∙ ap (λ o. refuse (not (is_some o)) refusal.Absent) found))
]
