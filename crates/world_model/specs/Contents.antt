-- What stands in a world: rows, identifiers, groups. A component's rows are its map; its number is called pool.
use Rattle.std.specs.Prelude.{ℕ, Bool, List, [], map, filter, reverse, length, Option, unwrap_or, slice_index_or, slice_set}
use Rattle.std.specs.List.{range_with_len, position_from}
use Rattle.entity_id.specs.declared.entity.Entity.{Entity}
use Rattle.entity_id.specs.FiniteMap as rows
use Rattle.world_model.specs.declared.component.Row.{Row}
use Rattle.world_model.specs.declared.group.GroupDecl.{GroupDecl}
use Rattle.world_model.specs.declared.world.World.{World}
use Rattle.world_model.specs.Components.{zero_row}

-- the rows of a component; one that isn't there has none
abbrev pub pool_at : World → ℕ → List (Entity × Row)
pool_at w pool = slice_index_or w.pools pool []

-- whether an identifier has a row in a component
abbrev pub has_row : World → ℕ → Entity → Bool
has_row w pool entity = rows.contains (pool_at w pool) entity

-- the row of an identifier in a component, and zeros where it has none
abbrev pub row_at : World → ℕ → Entity → Row
row_at w pool entity = unwrap_or (rows.get (pool_at w pool) entity) zero_row

-- the world with other rows in one component
abbrev pub with_pool : World → ℕ → List (Entity × Row) → World
with_pool w pool new = record w { pools = slice_set w.pools pool new }

-- for each component, the identifiers that have a row in it
abbrev pub keys_of : World → List (List Entity)
keys_of w = map rows.keys w.pools

-- the components in which an identifier has a row, in descending number
abbrev pub holders : World → Entity → List ℕ
holders w entity = filter (λ pool. has_row w pool entity) (reverse (range_with_len 0 (length w.pools)))

-- the group of this number; one that isn't there names nothing
abbrev pub group_at : World → ℕ → GroupDecl
group_at w group = slice_index_or w.groups group (record { own = []; get = []; without = [] })

-- the least group that passes the test
abbrev pub group_where : World → (GroupDecl → Bool) → Option ℕ
group_where w test = position_from test 0 w.groups
