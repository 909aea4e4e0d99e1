-- What a contract sees of a sparse set.
use Rattle.std.specs.Prelude.{ℕ, Bool, ◌==◌, List}
use Rattle.std.specs.List.{list_any}
use Rattle.entity_id.specs.declared.entity.Entity.{Entity}
use Rattle.entity_id.specs.Identifiers.{is_same}
use Rattle.entity_id.specs.FiniteMap.{AreDistinctBy}

-- a packed list, for how many reserved pushes there is room, and below which index
pub record PackedSet : Type 0 where
  pub list : List Entity
  pub spare : ℕ
  pub index_bound : ℕ

-- whether an identifier is contained, in index and version
abbrev pub contains : List Entity → Entity → Bool
contains list entity = list_any (is_same entity) list

-- whether an identifier with this index is contained
abbrev pub has_index : List Entity → ℕ → Bool
has_index list index = list_any (λ entity. entity.index == index) list

-- an index stands at one place at most
abbrev pub AreDistinct : List Entity → Type 0
AreDistinct list = AreDistinctBy (λ entity. entity.index) list
