-- How a sparse set keeps its places. No public clause cites this file.
use Rattle.std.specs.Prelude.{◌≡◌, ℕ, ◌+◌, ◌<◌, ◌≤◌, ◌^◌, List, length, Some, slice_get}
use Rattle.std.specs.Vec.{vec_capacity}
use Rattle.entity_id.specs.declared.entity.Entity.{Entity}
use Rattle.sparse_set.specs.declared.sparse_set.SparseSet.TheInside.{Inside}
use Rattle.sparse_set.specs.PackedSets.{PackedSet, AreDistinct}
use Rattle.sparse_set.specs.Pages.{place_at, AreMadeBelow}

-- each packed identifier's place stands under its index
abbrev pub ArePlaced : List Entity → List (List ℕ) → Type 0
ArePlaced packed pages = (k : ℕ) (entity : Entity) → slice_get packed k ≡ Some entity → place_at pages entity.index ≡ Some k

-- what a contract sees of the fields
abbrev pub set_of : Inside → PackedSet
set_of a = record { list = a.packed.items; spare = a.spare; index_bound = a.index_bound }

-- the places are kept, and there is room for each reserved push, in the packed list and in the pages
pub record IsKept (a : Inside) : Type 0 where
  pub placed : ArePlaced a.packed.items a.pages
  pub distinct : AreDistinct a.packed.items
  pub few : length a.packed.items + a.spare < 2 ^ 32
  pub room : length a.packed.items + a.spare ≤ vec_capacity a.packed
  pub made : AreMadeBelow a.pages a.index_bound
