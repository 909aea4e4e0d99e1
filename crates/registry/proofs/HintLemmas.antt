-- Why a hint is refused.
use Rattle.std.proofs.Common.{◌≡◌, ℕ, ◌+◌, ◌<◌, true, false, not, cond, ltb, ◌&&◌, length, [], None, refl, ap, inl, inr, arith}
use Rattle.std.proofs.lemmas.Bool.{cases_lt, le-ltb, false≢true}
use Rattle.entity_id.specs.declared.entity.Entity.{Entity}
use Rattle.entity_slots.specs.SlotLists.{SlotLists, is_plain}
use Rattle.world_model.specs.declared.command.Command.TheVariants.{Hint}
use Rattle.world_model.specs.declared.refusal.Refusal.TheVariants as refusal
use Rattle.world_model.specs.declared.world.World.{World}
use Rattle.world_model.specs.Refusing.{refuse, refusal_of}
use Rattle.world_model.specs.Slots.{is_full, is_plain_hint}
use Rattle.registry.specs.Running.{is_empty}

-- a hint is refused where it makes a plain creation that is
pub hint_refusal : (limit : ℕ) (w : World) (hint : Entity) → refusal_of limit w (Hint hint) ≡ refuse (is_plain_hint w.profile limit w.slots hint && is_full limit w.slots w.free) refusal.Full
hint_refusal limit w hint =
    elim (is_plain_hint w.profile limit w.slots hint) as (λ b. cond b (refuse (is_full limit w.slots w.free) refusal.Full) None ≡ refuse (b && is_full limit w.slots w.free) refusal.Full) [
      | true ↦ refl
      | false ↦ refl
    ]

-- where a creation by a hint was refused, it needed a new slot
pub refused_needs : (slots : SlotLists) (hint : Entity) → (is_plain slots hint ≡ true → slots.free ≡ []) → (is_plain slots hint ≡ false → hint.index < length slots.slots + slots.spare → false ≡ true)
    → cond (is_plain slots hint) (is_empty slots.free) (not (ltb hint.index (length slots.slots))) ≡ true
refused_needs slots hint reuse taken = elim (is_plain slots hint) as (λ b. is_plain slots hint ≡ b → cond b (is_empty slots.free) (not (ltb hint.index (length slots.slots))) ≡ true) [
  | true ↦ λ plain. ap is_empty (reuse plain)
  | false ↦ λ not_plain. elim (cases_lt hint.index (length slots.slots)) [
    | inl low ↦ absurd (false≢true (taken not_plain (omega arith)))
    | inr past ↦ ap not (le-ltb hint.index (length slots.slots) past)
  ]
] refl
