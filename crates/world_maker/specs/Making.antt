-- How a made world is put together, entity by entity. No public clause cites this module.
use Rattle.std.specs.Prelude.{ℕ, List, [], ◌∷◌, ◌++◌, if◌then◌else◌}
use Rattle.entity_id.specs.declared.entity.Entity.{Entity}
use Rattle.world_model.specs.declared.component.Row.{Row}
use Rattle.world_model.specs.Components.{zero_row}
use Rattle.world_maker.specs.declared.entity_rows.EntityRows.{EntityRows}
use Rattle.world_maker.specs.declared.pools.MadePools.{MadePools}
use Rattle.world_maker.specs.MadeWorlds.{position, velocity, health, team, target, damage, timer, is_frozen, rows_of_all, rows_of_frozen}

-- the rows of one of so many entities, from its draws
abbrev pub entity_rows : ℕ → (ℕ → ℕ) → EntityRows
entity_rows count d = record {
  position = position d;
  velocity = velocity d;
  health = health d;
  team = team d;
  target = target count d;
  damage = damage d;
  timer = timer d;
  is_frozen = is_frozen d;
}

-- no rows
abbrev pub no_rows : MadePools
no_rows = record { position = []; velocity = []; health = []; team = []; target = []; damage = []; timer = []; frozen = []; marked = [] }

-- one entity's rows more
abbrev pub with_entity : MadePools → Entity → EntityRows → MadePools
with_entity pools entity rows = record {
  position = pools.position ++ (entity, rows.position) ∷ [];
  velocity = pools.velocity ++ (entity, rows.velocity) ∷ [];
  health = pools.health ++ (entity, rows.health) ∷ [];
  team = pools.team ++ (entity, rows.team) ∷ [];
  target = pools.target ++ (entity, rows.target) ∷ [];
  damage = pools.damage ++ (entity, rows.damage) ∷ [];
  timer = pools.timer ++ (entity, rows.timer) ∷ [];
  frozen = if rows.is_frozen then pools.frozen ++ (entity, zero_row) ∷ [] else pools.frozen;
  marked = pools.marked ++ (entity, zero_row) ∷ [];
}

-- the rows of the first so many out of so many entities
abbrev pub rows_of_first : ℕ → ℕ → ℕ → MadePools
rows_of_first number count first = record {
  position = rows_of_all number first position;
  velocity = rows_of_all number first velocity;
  health = rows_of_all number first health;
  team = rows_of_all number first team;
  target = rows_of_all number first (target count);
  damage = rows_of_all number first damage;
  timer = rows_of_all number first timer;
  frozen = rows_of_frozen number first;
  marked = rows_of_all number first (λ d. zero_row);
}

-- the rows of each component, in the order of the header
abbrev pub pools_listed : MadePools → List (List (Entity × Row))
pools_listed pools =
    pools.position ∷ pools.velocity ∷ pools.health ∷ pools.team ∷ pools.target ∷ pools.damage ∷ pools.timer ∷ pools.frozen ∷ pools.marked ∷ []
