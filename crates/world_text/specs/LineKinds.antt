-- The kinds of lines that a document has.
use Rattle.std.specs.Prelude.{ℕ, List}
use Rattle.entity_id.specs.declared.entity.Entity.{Entity}
use Rattle.world_model.specs.declared.component.Decl.{Decl}
use Rattle.world_model.specs.declared.slot.Slot as slots
use Rattle.row_lang.specs.BodyLines.{BodyLine}
use Rattle.world_text.specs.FieldValues.{FieldValue}

-- the names in the three lists of a group line, each list in the order in which it is written
pub record NamedGroup : Type 0 where
  pub own : List (List ℕ)
  pub get : List (List ℕ)
  pub without : List (List ℕ)

-- `world V`, `component NAME KIND ..`, `group own NAMES` with its further lists, `system NAME`, a line of a system behind that, with the
-- names by which it calls the components, by number, `tick T`, `live V` or `free V`, `next I`, `pool NAME`, `row ENTITY VALUE ..` and `end`.
-- The last line of a system and that of the document have one text: which of them a text is, its place says
pub data Line : Type 0 where
  Version : Line
  Component : Decl → Line
  Group : NamedGroup → Line
  System : List ℕ → Line
  Body : List (List ℕ) → BodyLine → Line
  Tick : ℕ → Line
  Slot : slots.Slot → Line
  Next : ℕ → Line
  Pool : List ℕ → Line
  Row : Entity → List FieldValue → Line
  End : Line
