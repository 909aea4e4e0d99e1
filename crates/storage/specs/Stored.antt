-- What a contract sees of a storage.
use Rattle.std.specs.Prelude.{ℕ, List}
use Rattle.entity_id.specs.declared.entity.Entity.{Entity}

-- identifiers with their values in packed order, for how many reserved ones there is room, and below which index
pub record Stored (T : Type 0) : Type 0 where
  pub pairs : List (Entity × T)
  pub spare : ℕ
  pub index_bound : ℕ
