-- The values in a row's line.
use Rattle.std.specs.Prelude.{ℤ}
use Rattle.entity_id.specs.declared.entity.Entity.{Entity}

-- a whole number, or an identifier, which may be null
pub data FieldValue : Type 0 where
  Int : ℤ → FieldValue
  Ref : Entity → FieldValue
