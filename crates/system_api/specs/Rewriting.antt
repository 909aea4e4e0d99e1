-- Rows changed entity by entity.
use Rattle.std.specs.Prelude.{List, map}
use Rattle.entity_id.specs.declared.entity.Entity.{Entity}

-- every value changed by what its identifier and itself say; the identifiers stay in their places
abbrev pub rewritten : {X : Type 0} → (Entity → X → X) → List (Entity × X) → List (Entity × X)
rewritten change entries = map (λ entry. (entry.0, change entry.0 entry.1)) entries
