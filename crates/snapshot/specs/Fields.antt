-- The fields of a snapshot: what each says, and the bytes of each.
use Rattle.std.specs.Prelude.{ℕ, ◌<◌, ◌≤◌, ◌^◌, List, [], ◌∷◌, ◌++◌, length, codes, if◌then◌else◌}
use Rattle.std.specs.List.{flat_map, AllByRecursion}
use Rattle.std.specs.Int.{w64, cast_unsigned}
use Rattle.byteorder.specs.Endian.{little_bytes}
use Rattle.entity_id.specs.declared.entity.Entity.{Entity}
use Rattle.entity_id.specs.Identifiers.{null, is_same}
use Rattle.world_model.specs.declared.slot.Slot as slots
use Rattle.world_text.specs.FieldValues.{FieldValue}
use Rattle.world_text.specs.FieldValues as value
use Rattle.world_text.specs.LineKinds.{Line}
use Rattle.world_text.specs.LineKinds as line
use Rattle.world_text.specs.Formats.{version_1}
use Rattle.world_text.specs.Headers.{IsHeaderLine}
use Rattle.world_text.specs.Lines.{IsLine, line_text}

-- the mark, the version, how many header lines there are, a header line, the tick number, how many slots there are, a slot, an index on the
-- free list, how many rows the component of this name has, and a row. Of a component the bytes show no name, and of a row's entity no version:
-- the fields before say which they are
pub data Field : Type 0 where
  Mark : Field
  Version : Field
  HeaderCount : ℕ → Field
  Header : Line → Field
  Tick : ℕ → Field
  SlotCount : ℕ → Field
  Slot : slots.Slot → Field
  Next : ℕ → Field
  RowCount : List ℕ → ℕ → Field
  Row : Entity → List FieldValue → Field

-- the line of a document that says the same, where there is one
abbrev pub line_in : Field → List Line
line_in Mark = []
line_in Version = line.Version ∷ []
line_in (HeaderCount count) = []
line_in (Header l) = l ∷ []
line_in (Tick tick) = line.Tick tick ∷ []
line_in (SlotCount count) = []
line_in (Slot slot) = line.Slot slot ∷ []
line_in (Next index) = line.Next index ∷ []
line_in (RowCount name count) = line.Pool name ∷ []
line_in (Row entity values) = line.Row entity values ∷ []

-- ---- bytes

-- numbers of 8, 16, 32 and 64 bits, the lowest byte first
abbrev pub u8_bytes : ℕ → List ℕ
u8_bytes n = n ∷ []

abbrev pub u16_bytes : ℕ → List ℕ
u16_bytes n = little_bytes 2 n

abbrev pub u32_bytes : ℕ → List ℕ
u32_bytes n = little_bytes 4 n

abbrev pub u64_bytes : ℕ → List ℕ
u64_bytes n = little_bytes 8 n

-- the number of 32 bits that are all set
abbrev pub all_set : ℕ
all_set = 4294967295

-- a part of an identifier as it is written: null is written with all bits set in both parts
abbrev pub shown_part : Entity → ℕ → ℕ
shown_part entity part = if is_same entity (null version_1.profile) then all_set else part

-- an identifier: its index and its version
abbrev pub entity_bytes : Entity → List ℕ
entity_bytes entity = u32_bytes (shown_part entity entity.index) ++ u32_bytes (shown_part entity entity.version)

-- a value, in 8 bytes
abbrev pub value_bytes : FieldValue → List ℕ
value_bytes (value.Int number) = u64_bytes (cast_unsigned w64 number)
value_bytes (value.Ref entity) = entity_bytes entity

-- a slot's state: 1 where it is live, and 0 where it is free
abbrev pub state_of : slots.Slot → ℕ
state_of slot = if slot.live then 1 else 0

-- a line, behind its length
abbrev pub line_bytes : List ℕ → List ℕ
line_bytes text = u16_bytes (length text) ++ text

-- the bytes of a field
abbrev pub field_bytes : Field → List ℕ
field_bytes Mark = codes "WORLDSNP"
field_bytes Version = u32_bytes version_1.version
field_bytes (HeaderCount count) = u32_bytes count
field_bytes (Header l) = line_bytes (line_text version_1 l)
field_bytes (Tick tick) = u64_bytes tick
field_bytes (SlotCount count) = u32_bytes count
field_bytes (Slot slot) = u8_bytes (state_of slot) ++ u32_bytes slot.version
field_bytes (Next index) = u32_bytes index
field_bytes (RowCount name count) = u32_bytes count
field_bytes (Row entity values) = u32_bytes entity.index ++ flat_map value_bytes values

-- the bytes of fields, one after another
abbrev pub bytes_of : List Field → List ℕ
bytes_of fields = flat_map field_bytes fields

-- ---- which fields there are

-- how many header lines there are at most: those of 64 components, 32 groups and 64 systems of 70 lines each
abbrev pub header_limit : ℕ
header_limit = 4576

-- how many bytes a line has at most
abbrev pub line_limit : ℕ
line_limit = 4096

-- a count is within its limit, and a header line is one, of the length that a line may have
abbrev pub IsWithin : Field → Type 0
IsWithin (HeaderCount count) = count ≤ header_limit
IsWithin (Header l) = IsHeaderLine l × (length (line_text version_1 l) ≤ line_limit)
IsWithin (SlotCount count) = count ≤ version_1.slot_limit
IsWithin (RowCount name count) = count < 2 ^ 32
IsWithin _ = Unit {0}

-- a field: its line is one of the format, and what it counts is within the limit
pub record IsField (field : Field) : Type 0 where
  pub line : AllByRecursion (IsLine version_1) (line_in field)
  pub within : IsWithin field
