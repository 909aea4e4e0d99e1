-- What a contract sees of a view.
use Rattle.std.specs.Prelude.{ℕ, Bool, not, nat_le, ◌&&◌, List, [], length, filter, reverse, slice_index_or}
use Rattle.std.specs.List.{list_all, list_any, position_from}
use Rattle.std.specs.Option.{unwrap_or}
use Rattle.entity_id.specs.declared.entity.Entity.{Entity}
use Rattle.sparse_set.specs.PackedSets.{contains}

-- the packed lists of the sets that a view includes, and of those that it excludes
pub record ViewedSets : Type 0 where
  pub included : List (List Entity)
  pub excluded : List (List Entity)

-- whether an identifier is in each of some sets
abbrev pub is_in_all : List (List Entity) → Entity → Bool
is_in_all sets entity = list_all (λ set. contains set entity) sets

-- whether an identifier is in one of some sets
abbrev pub is_in_one : List (List Entity) → Entity → Bool
is_in_one sets entity = list_any (λ set. contains set entity) sets

-- whether a view contains an identifier: each included set does, and no excluded one
abbrev pub is_viewed : ViewedSets → Entity → Bool
is_viewed view entity = is_in_all view.included entity && not (is_in_one view.excluded entity)

-- whether none of some sets is smaller than this one
abbrev pub is_smallest : List (List Entity) → List Entity → Bool
is_smallest sets set = list_all (λ other. nat_le (length set) (length other)) sets

-- the place of the leading one of some sets, counted from 0: the first than which none is smaller
abbrev pub leading_place : List (List Entity) → ℕ
leading_place sets = unwrap_or (position_from (is_smallest sets) 0 sets) 0

-- the leading one of some sets
abbrev pub leading_set : List (List Entity) → List Entity
leading_set sets = slice_index_or sets (leading_place sets) []

-- what a walk of a view gives: the identifiers of its leading set that it contains, from the back to the front
abbrev pub walk_of : ViewedSets → List Entity
walk_of view = filter (is_viewed view) (reverse (leading_set view.included))
