-- Views of pools, whose maps are given by the lists of their identifiers and named by their numbers.
use Rattle.std.specs.Prelude.{ℕ, List, [], map, slice_index_or}
use Rattle.std.specs.List.{AllZip}
use Rattle.std.specs.List.Sorted.{IsPermutation}
use Rattle.entity_id.specs.declared.entity.Entity.{Entity}
use Rattle.pool_view.specs.ViewedSets.{ViewedSets}

-- the maps of these numbers; one that isn't there is empty
abbrev pub maps_of : List (List Entity) → List ℕ → List (List Entity)
maps_of maps pools = map (λ pool. slice_index_or maps pool []) pools

-- a view includes the pools of all and excludes those of none: each packed list has the identifiers of its map, in whatever order
pub record ViewsPools (maps : List (List Entity)) (all none : List ℕ) (view : ViewedSets) : Type 0 where
  pub included : AllZip IsPermutation (maps_of maps all) view.included
  pub excluded : AllZip IsPermutation (maps_of maps none) view.excluded
