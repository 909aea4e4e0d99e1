-- Pools taken out of a list by number, and put back. No public clause cites this file.
use Rattle.std.specs.Prelude.{◌≡◌, List, [], ◌∷◌, Some, slice_get, slice_set}
use Rattle.storage.specs.Stored.{Stored}
use Rattle.world_model.specs.declared.component.Row.{Row}
use Rattle.system_api.specs.declared.lent.LentPool.{LentPool}

-- pools put back under their numbers, the last one first
abbrev pub put_back : List LentPool → List (Stored Row) → List (Stored Row)
put_back [] pools = pools
put_back (pool ∷ lent) pools = slice_set (put_back lent pools) pool.number pool.storage

-- a lent pool is that of its number in a list
abbrev pub IsPoolOf : List (Stored Row) → LentPool → Type 0
IsPoolOf pools lent = slice_get pools lent.number ≡ Some lent.storage
