-- How many steps the calls of a registry count.
use Rattle.std.specs.Prelude.{ℕ, ◌+◌, ◌*◌, ◌^◌, ◌<◌, ◌≤◌, List, length, sum_by, slice_index_or}
use Rattle.entity_id.specs.declared.entity.Entity.{Entity}
use Rattle.world_model.specs.declared.command.Command.{Command}
use Rattle.world_model.specs.declared.command.Command.TheVariants.{Destroy, Emplace, EmplaceOrReplace, Remove, Erase, Clear, Group, SortPool, SortGroup}
use Rattle.world_model.specs.declared.group.GroupDecl.{GroupDecl}
use Rattle.world_model.specs.declared.world.World.{World}
use Rattle.world_model.specs.Contents.{pool_at, keys_of, holders, group_at}
use Rattle.world_model.specs.Groups.{members}
use Rattle.group_engine.specs.Grouped.{naming_cost}

-- the most steps that a row added to a pool or removed from it counts: one, and one for each owned pool of each group that names
-- the pool
abbrev pub row_steps : List GroupDecl → ℕ → ℕ
row_steps groups pool = 1 + naming_cost groups pool

-- the most that a new group counts: one for each member in each pool that it owns, and its first owned pool has them all
abbrev pub group_steps : World → GroupDecl → ℕ
group_steps w decl = length (pool_at w (slice_index_or decl.own 0 0)) * length decl.own

-- the most that a group sorted counts: one for each member in each pool that it owns
abbrev pub sort_steps : World → GroupDecl → ℕ
sort_steps w decl = length decl.own * length (members (keys_of w) decl)

-- the most that an entity destroyed counts: so many for each pool that it is in
abbrev pub destroy_steps : World → Entity → ℕ
destroy_steps w entity = sum_by (row_steps w.groups) (holders w entity)

-- the most that a pool emptied counts, of fewer than 2 ^ depth rows: its packed list is put in order by exchanges
abbrev pub clear_steps : ℕ → World → ℕ → ℕ
clear_steps depth w pool = length (pool_at w pool) * (2 * depth + row_steps w.groups pool)

-- a pool was emptied within so many steps, whatever power of 2 its rows are below
abbrev pub ClearsWithin : World → ℕ → ℕ → ℕ → Type 0
ClearsWithin w pool before after = (depth : ℕ) → length (pool_at w pool) < 2 ^ depth → after ≤ before + clear_steps depth w pool

-- a command was carried out within so many steps
abbrev pub RunsWithin : World → Command → ℕ → ℕ → Type 0
RunsWithin w (Destroy entity) before after = after ≤ before + destroy_steps w entity
RunsWithin w (Emplace entity pool row) before after = after ≤ before + row_steps w.groups pool
RunsWithin w (EmplaceOrReplace entity pool row) before after = after ≤ before + row_steps w.groups pool
RunsWithin w (Remove entity pool) before after = after ≤ before + row_steps w.groups pool
RunsWithin w (Erase entity pool) before after = after ≤ before + row_steps w.groups pool
RunsWithin w (Clear pool) before after = ClearsWithin w pool before after
RunsWithin w (Group decl) before after = after ≤ before + group_steps w decl
RunsWithin w (SortPool pool field) before after = after ≤ before + length (pool_at w pool)
RunsWithin w (SortGroup group pool field) before after = after ≤ before + sort_steps w (group_at w group)
RunsWithin w _ before after = after ≤ before
