-- What the tests' system does: it parts the entities of one pool by whether another pool has them. No public clause cites this file.
use Rattle.std.proofs.Common.{◌≡◌, ℕ, suc, ◌≤◌, List, [], ◌∷◌, length, refl, sym, ap, ap₂, subst, if◌then◌else◌}
use Rattle.std.specs.Prelude.{slice_get, unwrap_or}
use Rattle.std.proofs.Math.Nat.{le_refl}
use Rattle.std.proofs.lemmas.Bool.{false≢true}
use Rattle.entity_id.specs.declared.entity.Entity.{Entity}
use Rattle.entity_id.specs.FiniteMap as entries
use Rattle.world_model.specs.declared.access.Access.{Access}
use Rattle.world_model.specs.declared.component.Row.{Row}
use Rattle.world_model.specs.declared.deferred.Deferred.{Deferred}
use Rattle.world_model.specs.declared.deferred.Deferred.TheVariants.{Kill, Take}
use Rattle.world_model.specs.Frames.{ChangesOnlyItsRows, DependsOnItsLists}
use Rattle.world_model.specs.Ticks.{Maps, Effect}
use Rattle.system_api.specs.Emissions.{orders_along}
use Rattle.system_api.specs.Running.{sizes_of, AreSameSizesIn}

-- it reads pools 0 and 1
abbrev pub parting_lists : Access
parting_lists = record { read = 0 ∷ 1 ∷ []; write = []; look = []; without = [] }

-- the rows of a component; one that isn't there has none
abbrev pub rows_in : Maps → ℕ → List (Entity × Row)
rows_in maps pool = unwrap_or (slice_get maps pool) []

-- an entity that the other pool has too is destroyed, and any other loses its row in pool 0
abbrev pub parting_order : List (Entity × Row) → Entity → Deferred
parting_order other entity = if entries.contains other entity then Kill entity else Take entity 0

-- one order for each entity of pool 0, and no row changed
abbrev pub parted : ℕ → Maps → Effect
parted tick maps = record { maps = maps; orders = orders_along (λ entity (row : Row). parting_order (rows_in maps 1) entity ∷ []) (rows_in maps 0) }

-- as many orders as pool 0 has rows
abbrev pub parting_limit : List ℕ → ℕ
parting_limit sizes = unwrap_or (slice_get sizes 0) 0

-- ---- its laws

pub parting_frame : ChangesOnlyItsRows parting_lists parted
parting_frame = record {
  identifiers = λ tick maps. refl;
  unwritten = λ tick maps pool no. refl;
  others = λ tick maps pool entity no. refl;
}

pub parting_local : DependsOnItsLists parting_lists parted
parting_local = record {
  rows = λ tick a b same pool named. absurd (false≢true named);
  orders = λ tick a b same. ap₂ (λ x y. orders_along (λ entity (row : Row). parting_order (unwrap_or y []) entity ∷ []) (unwrap_or x [])) (same 0 refl) (same 1 refl);
}

one_each : (other rows : List (Entity × Row)) → length (orders_along (λ entity (row : Row). parting_order other entity ∷ []) rows) ≡ length rows
one_each other [] = refl
one_each other (row ∷ rows) = ap suc (one_each other rows)

pub parting_few : (tick : ℕ) (maps : Maps) → length (parted tick maps).orders ≤ parting_limit (sizes_of maps)
parting_few tick [] = le_refl 0
parting_few tick (rows ∷ maps) = subst (λ (n : ℕ). n ≤ length rows) (sym (one_each (rows_in (rows ∷ maps) 1) rows)) (le_refl (length rows))

pub parting_sized : (a b : List ℕ) → AreSameSizesIn (0 ∷ 1 ∷ []) a b → parting_limit a ≡ parting_limit b
parting_sized a b same = ap (λ size. unwrap_or size 0) (same 0 refl)
