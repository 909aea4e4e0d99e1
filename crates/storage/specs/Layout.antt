-- How a storage keeps its values. No public clause cites this file.
use Rattle.std.specs.Prelude.{◌≡◌, ◌+◌, ◌≤◌, length}
use Rattle.std.specs.List.{zip}
use Rattle.std.specs.Vec.{vec_capacity}
use Rattle.std.specs.Global.{Vec}
use Rattle.sparse_set.specs.PackedSets.{PackedSet, AreDistinct}
use Rattle.storage.specs.Stored.{Stored}

-- what a contract sees of a sparse set and the values beside it
abbrev pub stored_of : {T : Type 0} → PackedSet → Vec T → Stored T
stored_of index values = record { pairs = zip index.list values.items; spare = index.spare; index_bound = index.index_bound }

-- one value for each identifier, and room for as many reserved ones as the set has
pub record IsKept {T : Type 0} (index : PackedSet) (values : Vec T) : Type 0 where
  pub one_each : length values.items ≡ length index.list
  pub room : length values.items + index.spare ≤ vec_capacity values
  pub distinct : AreDistinct index.list
