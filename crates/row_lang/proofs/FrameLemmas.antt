-- A system of the language changes rows of its own entities alone, in the components that it writes.
use Rattle.std.proofs.Common.{◌≡◌, ℕ, zero, suc, ◌+◌, Bool, true, false, cond, IsFalse, List, [], ◌∷◌, map, get_or, slice_get, Option, Some, None, refl, ap, ◌∙◌, sym, arith, if◌then◌else◌}
use Rattle.std.specs.Map.{lookup}
use Rattle.std.specs.Option.{option_map}
use Rattle.entity_id.specs.declared.entity.Entity.{Entity}
use Rattle.entity_id.specs.declared.entity.Profile.{Profile}
use Rattle.entity_id.specs.FiniteMap as entries
use Rattle.entity_id.specs.Identifiers.{is_same}
use Rattle.entity_id.proofs.MapLemmas.{same_true}
use Rattle.world_model.specs.declared.component.Row.{Row}
use Rattle.world_model.specs.Groups.{has_pool}
use Rattle.world_model.specs.Ticks.{Maps}
use Rattle.row_lang.specs.Effects.{changed_from, done_for, rewritten, system_effect}
use Rattle.world_model.specs.Frames.{ChangesOnlyItsRows, is_member, map_at}
use Rattle.row_lang.specs.Systems.{System}
use Rattle.row_lang.specs.Values.{own_row}

-- ---- items changed by their numbers

module _ {X : Type 0} (change : ℕ → X → X) where
  pub slice_get-changed_from : (n : ℕ) (xs : List X) (k : ℕ) → slice_get (changed_from n change xs) k ≡ option_map (change (n + k)) (slice_get xs k)
  slice_get-changed_from n [] k = refl
  slice_get-changed_from n (x ∷ xs) zero = let e : n + 0 ≡ n = omega arith in rw e refl
  slice_get-changed_from n (x ∷ xs) (suc k) = let e : n + 1 + k ≡ n + suc k = omega arith in slice_get-changed_from (n + 1) xs k ∙ ap (λ m. option_map (change m) (slice_get xs k)) e

  -- what a change keeps of each item is kept of all of them
  pub map-changed_from : {Y : Type 0} (view : X → Y) → ((n : ℕ) (x : X) → view (change n x) ≡ view x) → (n : ℕ) (xs : List X) → map view (changed_from n change xs) ≡ map view xs
  map-changed_from view kept n [] = refl
  map-changed_from view kept n (x ∷ xs) = let here = kept n x in let behind = map-changed_from view kept (n + 1) xs in cc

  pub get_or-changed_from : {Y : Type 0} (view : X → Y) → ((n : ℕ) (x : X) → view (change n x) ≡ view x) → (n : ℕ) (xs : List X) (k : ℕ) (d : X) → view (get_or (changed_from n change xs) k d) ≡ view (get_or xs k d)
  get_or-changed_from view kept n [] k d = refl
  get_or-changed_from view kept n (x ∷ xs) zero d = kept n x
  get_or-changed_from view kept n (x ∷ xs) (suc k) d = get_or-changed_from view kept (n + 1) xs k d

-- ---- rows changed by their identifiers

module _ (test : Entity → Bool) (now : Entity → Row) where
  abbrev change_row : Entity × Row → Entity × Row
  change_row entry = (entry.0, if test entry.0 then now entry.0 else entry.1)

  keys-changed : (rows : List (Entity × Row)) → entries.keys (map change_row rows) ≡ entries.keys rows
  keys-changed [] = refl
  keys-changed (entry ∷ rows) = ap (λ es. entry.0 ∷ es) (keys-changed rows)

  -- an identifier finds its new row where it passes the test, and else the one that it had
  get-changed : (rows : List (Entity × Row)) (e : Entity) → entries.get (map change_row rows) e ≡ option_map (λ row. if test e then now e else row) (entries.get rows e)
  get-changed [] e = refl
  get-changed (entry ∷ rows) e =
      elim (is_same e entry.0) as (λ b. is_same e entry.0 ≡ b → cond b (Some (if test entry.0 then now entry.0 else entry.1)) (lookup (is_same e) (map change_row rows)) ≡ option_map (λ row. if test e then now e else row) (cond b (Some entry.1) (lookup (is_same e) rows))) [
        | true ↦ λ same. ap (λ it. Some (if test it then now it else entry.1)) (sym (same_true e entry.0 same))
        | false ↦ λ _. get-changed rows e
      ] refl

-- ---- systems

-- a row that isn't of a system's entity stays
option-kept : (o : Option Row) (b : Bool) (now : Row) → b ≡ false → option_map (λ row. if b then now else row) o ≡ o
option-kept None b now is = refl
option-kept (Some row) b now is = rw is refl

-- a choice between a change that keeps something and none keeps it
either_kept : {X Y : Type 0} (view : X → Y) (b : Bool) (changed x : X) → view changed ≡ view x → view (if b then changed else x) ≡ view x
either_kept view true changed x kept = kept
either_kept view false changed x kept = refl

module _ (profile : Profile) (system : System) (tick : ℕ) (maps : Maps) where
  -- what becomes of the rows of one component
  abbrev change_pool : ℕ → List (Entity × Row) → List (Entity × Row)
  change_pool pool rows = if has_pool system.access.write pool then rewritten profile system tick maps pool rows else rows

  abbrev row_now : ℕ → Entity → Row
  row_now pool entity = own_row (done_for profile system tick maps entity).rows pool

  abbrev test : Entity → Bool
  test entity = is_member system.access maps entity

  identifiers : map entries.keys (system_effect profile system tick maps).maps ≡ map entries.keys maps
  identifiers = map-changed_from change_pool entries.keys
      (λ pool rows. either_kept entries.keys (has_pool system.access.write pool) (rewritten profile system tick maps pool rows) rows (keys-changed test (row_now pool) rows)) 0 maps

  others : (pool : ℕ) (entity : Entity) → IsFalse (test entity) → entries.get (map_at (system_effect profile system tick maps).maps pool) entity ≡ entries.get (map_at maps pool) entity
  others pool entity out = get_or-changed_from change_pool (λ rows. entries.get rows entity)
      (λ p rows. either_kept (λ rows. entries.get rows entity) (has_pool system.access.write p) (rewritten profile system tick maps p rows) rows
      (get-changed test (row_now p) rows entity ∙ option-kept (entries.get rows entity) (test entity) (row_now p entity) out)) 0 maps pool []

  unwritten : (pool : ℕ) → IsFalse (has_pool system.access.write pool) → slice_get (system_effect profile system tick maps).maps pool ≡ slice_get maps pool
  unwritten pool out = slice_get-changed_from change_pool 0 maps pool ∙ kept (slice_get maps pool)
    where
      kept : (o : Option (List (Entity × Row))) → option_map (change_pool (0 + pool)) o ≡ o
      kept None = refl
      kept (Some rows) = let e : 0 + pool ≡ pool = omega arith in rw (e, out) refl

-- the frame
pub changes_only_its_rows : (profile : Profile) (system : System) → ChangesOnlyItsRows system.access (system_effect profile system)
changes_only_its_rows profile system = record {
  identifiers = identifiers profile system;
  unwritten = unwritten profile system;
  others = others profile system;
}
