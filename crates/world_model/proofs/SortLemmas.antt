-- A sort leaves what holds of each row.
use Rattle.std.proofs.Common.{ℕ, true, false, cond, List, [], ◌∷◌}
use Rattle.std.specs.List.{AllByRecursion}
use Rattle.entity_id.specs.declared.entity.Entity.{Entity}
use Rattle.world_model.specs.declared.component.Row.{Row}
use Rattle.world_model.specs.Sorting.{is_before, insert_by_field, rows_by_field}

pub all-insert : (P : Entity × Row → Type 0) (field : ℕ) (entry : Entity × Row) (entries : List (Entity × Row)) → P entry → AllByRecursion P entries → AllByRecursion P (insert_by_field field entry entries)
all-insert P field entry [] here h = (here, tt)
all-insert P field entry (next ∷ rest) here h =
    elim (is_before field entry next) as (λ b. AllByRecursion P (cond b (entry ∷ next ∷ rest) (next ∷ insert_by_field field entry rest))) [
      | true ↦ (here, h)
      | false ↦ (h.0, all-insert P field entry rest here h.1)
    ]

pub all-sorted : (P : Entity × Row → Type 0) (field : ℕ) (entries : List (Entity × Row)) → AllByRecursion P entries → AllByRecursion P (rows_by_field field entries)
all-sorted P field [] h = tt
all-sorted P field (entry ∷ rest) h = all-insert P field entry (rows_by_field field rest) h.0 (all-sorted P field rest h.1)
