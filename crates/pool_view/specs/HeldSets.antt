-- How a view and its walk keep sets. No public clause cites this file.
use Rattle.std.specs.Prelude.{Bool, not, ◌&&◌, List, [], map, Option, None, Some}
use Rattle.std.specs.Borrow.{Bor}
use Rattle.entity_id.specs.declared.entity.Entity.{Entity}
use Rattle.sparse_set.specs.PackedSets.{PackedSet}
use Rattle.pool_view.specs.ViewedSets.{is_in_all, is_in_one}

-- the packed list at a place; a place without a set has none
abbrev pub list_at : Option (Bor PackedSet) → List Entity
list_at None = []
list_at (Some set) = set.now.list

-- the packed lists at some places
abbrev pub lists_of : List (Option (Bor PackedSet)) → List (List Entity)
lists_of sets = map list_at sets

-- whether an identifier of a set is viewed: the included sets before it and behind it contain it, and no excluded one does
abbrev pub is_viewed_beside : List (List Entity) → List (List Entity) → List (List Entity) → Entity → Bool
is_viewed_beside before behind excluded entity = is_in_all before entity && (is_in_all behind entity && not (is_in_one excluded entity))
