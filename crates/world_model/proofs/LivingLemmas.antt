-- An identifier is live until it is destroyed.
use Rattle.std.proofs.Common.{◌≡◌, ◌≢◌, ℕ, true, false, None, refl, ap, inl, inr}
use Rattle.std.proofs.lemmas.Bool.{cases_Bool, both_ways}
use Rattle.entity_id.specs.declared.entity.Entity.{Entity}
use Rattle.entity_id.specs.Identifiers.{is_same}
use Rattle.entity_id.proofs.MapLemmas.{same_true}
use Rattle.world_model.specs.declared.command.Command.{Command}
use Rattle.world_model.specs.declared.command.Command.TheVariants.{Create, Hint, Destroy, Remove, Group}
use Rattle.world_model.specs.declared.command.Reply.TheVariants.{Done}
use Rattle.world_model.specs.declared.world.World.{World}
use Rattle.world_model.specs.Orders.{is_refused}
use Rattle.world_model.specs.Outcomes.{outcome_of}
use Rattle.world_model.specs.Refusing.{refusal_of}
use Rattle.world_model.specs.Slots.{is_live}
use Rattle.world_model.specs.Steps.{step}
use Rattle.world_model.specs.Worlds.{IsLawful}
use Rattle.world_model.proofs.AcceptedLemmas.{alive, plainly_created, created_by_hint}
use Rattle.world_model.proofs.SlotLemmas.{released_live, released_dead}
use Rattle.world_model.proofs.StepLemmas.{step_cases, remove_cases, group_cases}

accepted_lives : (limit : ℕ) (w : World) (command : Command) (entity : Entity) → IsLawful limit w → is_live w.slots entity ≡ true → command ≢ Destroy entity → refusal_of limit w command ≡ None → is_live (outcome_of limit w command).world.slots entity ≡ true
accepted_lives limit w Create entity h live other k = (plainly_created limit w h k).keeps entity live
accepted_lives limit w (Hint hint) entity h live other k = (created_by_hint limit w hint h k).keeps entity live
accepted_lives limit w (Destroy e) entity h live other k =
    elim (cases_Bool (is_same e entity)) [
      | inl same ↦ absurd (other (ap Destroy (same_true e entity same)))
      | inr differ ↦ released_live w.profile w.slots e entity (alive w e k) live differ
    ]
accepted_lives limit w (Remove e pool) entity h live other k = remove_cases (λ o. is_live o.world.slots entity ≡ true) w e pool live live
accepted_lives limit w (Group decl) entity h live other k = group_cases (λ o. is_live o.world.slots entity ≡ true) w decl (λ _. live) live
accepted_lives limit w _ entity h live other k = live

-- no command but its own Destroy ends an identifier
pub lives_on : (limit : ℕ) (w : World) (command : Command) (entity : Entity) → IsLawful limit w → is_live w.slots entity ≡ true → command ≢ Destroy entity → is_live (step limit w command).world.slots entity ≡ true
lives_on limit w command entity h live other =
    step_cases (λ o. is_live o.world.slots entity ≡ true) limit w command (λ _ _. live) (accepted_lives limit w command entity h live other)

-- and that one does
pub destroyed_is_dead : (limit : ℕ) (w : World) (entity : Entity) → (step limit w (Destroy entity)).reply ≡ Done → is_live (step limit w (Destroy entity)).world.slots entity ≡ false
destroyed_is_dead limit w entity =
    step_cases (λ o. o.reply ≡ Done → is_live o.world.slots entity ≡ false) limit w (Destroy entity)
    (λ _ _ same. absurd (both_ways _ (ap is_refused same) refl))
    (λ k _. released_dead w.profile w.slots entity (alive w entity k))
