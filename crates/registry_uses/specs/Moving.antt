-- Places after one tick.
use Rattle.std.specs.Prelude.{◌≡◌, ◌≢◌, ◌⊎◌, ℕ, ℤ, ◌+ℤ◌, Bool, true, false, [], ◌∷◌, Some}
use Rattle.std.specs.Int.{w64, saturate_signed}
use Rattle.entity_id.specs.declared.entity.Entity.{Entity}
use Rattle.entity_id.specs.FiniteMap as rows
use Rattle.entity_id.specs.Matching.{is_match}
use Rattle.world_model.specs.declared.component.Row.{Row}
use Rattle.world_model.specs.declared.world.World.{World}
use Rattle.world_model.specs.Components.{value_at}
use Rattle.world_model.specs.Contents.{pool_at, row_at, keys_of}
use Rattle.registry_uses.specs.declared.beginning.TheConstants.{POSITION, VELOCITY, FROZEN}
use Rattle.registry_uses.specs.Scenes.{pair}

-- a place once a velocity is added to it, kept within 64 bits
abbrev pub moved : Row → Row → Row
moved place velocity =
    pair (saturate_signed w64 (value_at place 0 +ℤ value_at velocity 0)) (saturate_signed w64 (value_at place 1 +ℤ value_at velocity 1))

-- the second number of a place once it is raised, kept within 64 bits
abbrev pub lifted_height : Row → ℤ → ℤ
lifted_height place by = saturate_signed w64 (value_at place 1 +ℤ by)

-- where an entity is next
abbrev pub next_place : World → Entity → Row
next_place w entity = moved (row_at w POSITION entity) (row_at w VELOCITY entity)

-- whether an entity has a place and a velocity, and isn't frozen
abbrev pub is_moving : World → Entity → Bool
is_moving w entity = is_match (keys_of w) (POSITION ∷ VELOCITY ∷ []) (FROZEN ∷ []) entity

-- each that moves is at its next place, and all else is as before
pub record IsMoved (old new : World) : Type 0 where
  pub moving : (entity : Entity) → is_moving old entity ≡ true → rows.get (pool_at new POSITION) entity ≡ Some (next_place old entity)
  pub standing : (entity : Entity) → is_moving old entity ≡ false → rows.get (pool_at new POSITION) entity ≡ rows.get (pool_at old POSITION) entity
  pub pools : (pool : ℕ) → pool ≢ POSITION → pool_at new pool ≡ pool_at old pool
  pub rest : new ≡ record old { pools = new.pools }

-- each place is as before, or an entity that moves is at its next place; and all else is as before
pub record IsPartlyMoved (old new : World) : Type 0 where
  pub places : (entity : Entity) → (rows.get (pool_at new POSITION) entity ≡ rows.get (pool_at old POSITION) entity)
      ⊎ ((is_moving old entity ≡ true) × (rows.get (pool_at new POSITION) entity ≡ Some (next_place old entity)))
  pub pools : (pool : ℕ) → pool ≢ POSITION → pool_at new pool ≡ pool_at old pool
  pub rest : new ≡ record old { pools = new.pools }
