-- Every allowed command leaves a lawful world lawful.
use Rattle.std.proofs.Common.{◌≡◌, ℕ, ◌<◌, true, false, cond, length, Some, None, slice_get, ℤ, sym, refl, ap, ◌∙◌}
use Rattle.std.specs.Option.{option_map_or}
use Rattle.entity_id.specs.declared.entity.Entity.{Entity}
use Rattle.world_model.specs.declared.command.Command.{Command}
use Rattle.world_model.specs.declared.command.Command.TheVariants.{Create, Hint, Destroy, Emplace, EmplaceOrReplace, Replace, Patch, Remove, Erase, Clear, Group}
use Rattle.world_model.specs.declared.command.Reply.TheVariants.{Number}
use Rattle.world_model.specs.declared.component.Decl.{Decl}
use Rattle.world_model.specs.declared.component.Row.{Row}
use Rattle.world_model.specs.declared.world.World.{World}
use Rattle.world_model.specs.Components.{IsRow, fits, fits_kind, kinds_of, with_field, zero_row}
use Rattle.world_model.specs.Conditions.{MaySet, MaySetField, IsAllowed}
use Rattle.world_model.specs.Contents.{pool_at, has_row, row_at}
use Rattle.world_model.specs.Outcomes.{answers, drops, outcome_of}
use Rattle.world_model.specs.Refusing.{refusal_of, when_absent}
use Rattle.world_model.specs.Slots.{plain_creation, creation_by_hint}
use Rattle.world_model.specs.Steps.{step, unless_refused}
use Rattle.world_model.specs.Worlds.{AreLawfulRows, IsLawful}
use Rattle.world_model.proofs.AcceptedLemmas.{group_passes, alive, present, entry_live, entry_declared, entry_further, plainly_created, created_by_hint}
use Rattle.world_model.proofs.LawfulLemmas.{makes_lawful, destroys_lawful, put_lawful, remove_lawful, clear_lawful, group_lawful}
use Rattle.world_model.proofs.RowLemmas.{fits-with_field, row-with_field, all-get}

-- a row that may be set fits the component of its number
may_set : (w : World) (pool : ℕ) (row : Row) → MaySet w.profile w.decls pool row → (decl : Decl) → slice_get w.decls pool ≡ Some decl → IsRow row × (fits w.profile decl row ≡ true)
may_set w pool row may decl is = (may.wide, sym (ap (λ d. option_map_or (λ decl. fits w.profile decl row) d true) is) ∙ may.fit)

-- and so does a row that is there, with a field set that may be
may_patch : (w : World) (e : Entity) (pool field : ℕ) (value : ℤ) → MaySetField w.profile w.decls pool field value → pool < length w.decls → has_row w pool e ≡ true
    → (decl : Decl) → slice_get w.decls pool ≡ Some decl → AreLawfulRows w.profile w.slots decl (pool_at w pool)
    → IsRow (with_field (row_at w pool e) field value) × (fits w.profile decl (with_field (row_at w pool e) field value) ≡ true)
may_patch w e pool field value may there has decl is p = (
  row-with_field (row_at w pool e) field value (all-get IsRow (pool_at w pool) e zero_row p.wide has) may.wide,
  fits-with_field w.profile decl (row_at w pool e) field value
      (all-get (λ r. fits w.profile decl r ≡ true) (pool_at w pool) e zero_row p.fitting has)
      (sym (ap (λ d. option_map_or (λ (decl : Decl). option_map_or (λ kind. fits_kind w.profile kind value) (slice_get (kinds_of decl) field) false) d false) is)
      ∙ may.fit there),
)

-- what a command that is not refused leaves
accepted_lawful : (limit : ℕ) (w : World) (command : Command) → IsLawful limit w → IsAllowed w command → refusal_of limit w command ≡ None → IsLawful limit (outcome_of limit w command).world
accepted_lawful limit w Create h ok k = makes_lawful limit w (plain_creation w.slots w.free) h (plainly_created limit w h k)
accepted_lawful limit w (Hint hint) h ok k = makes_lawful limit w (creation_by_hint w.profile limit w.slots w.free hint) h (created_by_hint limit w hint h k)
accepted_lawful limit w (Destroy e) h ok k = destroys_lawful limit w e h (alive w e k)
accepted_lawful limit w (Emplace e pool row) h ok k = put_lawful limit w e pool row h (entry_live w pool e _ k) (λ decl is _. may_set w pool row ok decl is)
accepted_lawful limit w (EmplaceOrReplace e pool row) h ok k = put_lawful limit w e pool row h (entry_live w pool e None k) (λ decl is _. may_set w pool row ok decl is)
accepted_lawful limit w (Replace e pool row) h ok k = put_lawful limit w e pool row h (entry_live w pool e _ k) (λ decl is _. may_set w pool row ok decl is)
accepted_lawful limit w (Patch e pool field value) h ok k =
    put_lawful limit w e pool _ h (entry_live w pool e _ k)
    (may_patch w e pool field value ok (entry_declared w pool e _ k) (present w pool e (entry_further w pool e (when_absent w pool e) k)))
accepted_lawful limit w (Remove e pool) h ok k =
    elim (has_row w pool e) as (λ b. IsLawful limit (cond b (drops w e pool (Number 1)) (answers w (Number 0))).world) [
      | true ↦ remove_lawful limit w e pool h
      | false ↦ h
    ]
accepted_lawful limit w (Erase e pool) h ok k = remove_lawful limit w e pool h
accepted_lawful limit w (Clear pool) h ok k = clear_lawful limit w pool h
accepted_lawful limit w (Group decl) h ok k =
    let passes = group_passes w decl k in
    group_lawful limit w decl h passes.0 passes.1 passes.2
accepted_lawful limit w _ h ok k = h

pub step_lawful : (limit : ℕ) (w : World) (command : Command) → IsLawful limit w → IsAllowed w command → IsLawful limit (step limit w command).world
step_lawful limit w command h ok =
    elim (refusal_of limit w command) as (λ r. refusal_of limit w command ≡ r → IsLawful limit (unless_refused w r (outcome_of limit w command)).world) [
      | None ↦ λ k. accepted_lawful limit w command h ok k
      | Some cause ↦ λ _. h
    ] refl
