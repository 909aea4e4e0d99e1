-- How far bytes have been read.
use Rattle.std.specs.Prelude.{◌≡◌, ◌⊎◌, ℕ, ℤ, ◌+◌, ◌<◌, ◌≤◌, ◌^◌, true, List, [], ◌∷◌, ◌++◌, length, drop, slice_get, Some, IsTrue}
use Rattle.std.specs.List.{flat_map, AllByRecursion}
use Rattle.world_model.specs.declared.component.Kind.{Kind}
use Rattle.world_model.specs.declared.component.Row.{Row}
use Rattle.entity_id.specs.declared.entity.Entity.{Entity}
use Rattle.world_model.specs.declared.slot.Slot.{Slot}
use Rattle.world_model.specs.Slots.{is_live}
use Rattle.world_text.specs.FieldValues.{FieldValue}
use Rattle.world_text.specs.Fitting.{is_of_kind, are_of_kinds}
use Rattle.world_text.specs.Lines.{IsValue}
use Rattle.world_text.specs.Meaning.{field_of_value, row_of}
use Rattle.world_text.specs.declared.draft.Draft.{Draft}
use Rattle.world_text.specs.LineKinds.{Line}
use Rattle.world_text.specs.LineKinds as line
use Rattle.world_text.specs.Drafts.{Stands}
use Rattle.world_text.specs.Formats.{version_1}
use Rattle.world_text.specs.Headers.{HeaderSoFar, header_so_far}
use Rattle.snapshot.specs.declared.refusal.PackRefused.{PackRefused}
use Rattle.snapshot.specs.declared.refusal.PackRefused.TheVariants.{BadAt, OutOfMemory}
use Rattle.snapshot.specs.Fields.{Field, IsField, line_limit, u32_bytes, line_bytes, value_bytes, field_bytes, bytes_of}
use Rattle.snapshot.specs.Due.{Due, due_behind}
use Rattle.snapshot.specs.Due as due
use Rattle.snapshot.specs.Snapshots.{AreAdmissible, lines_of_fields, IsBadField}

-- what a refusal says of bytes: the offset that it names is where the first bad field starts, and want of memory says nothing
abbrev pub IsCause : List ℕ → PackRefused → Type 0
IsCause bytes (BadAt offset) = IsBadField bytes offset
IsCause bytes OutOfMemory = Unit {0}

-- the bytes before a place are admissible fields, behind which this is due, and of whose lines this holds
pub record Reaches (bytes : List ℕ) (at : ℕ) (due : Due) (Holds : List Line → Type 0) : Type 0 where
  pub fields : List Field
  pub admissible : AreAdmissible fields
  pub starts : at ≡ length (bytes_of fields)
  pub spelled : bytes ≡ bytes_of fields ++ drop at bytes
  pub due_is : due_behind fields ≡ due
  pub holds : Holds (lines_of_fields fields)

-- no line stands yet
abbrev pub IsBegun : List Line → Type 0
IsBegun lines = lines ≡ []

-- line 1 stands, and behind it header lines that a header stands for
pub record IsHeader (header : HeaderSoFar) (lines : List Line) : Type 0 where
  pub headers : List Line
  pub behind : lines ≡ line.Version ∷ headers
  pub is : header ≡ header_so_far headers

-- a draft of version 1 stands for lines
pub record IsDraft (draft : Draft) (lines : List Line) : Type 0 where
  pub format : draft.format ≡ version_1
  pub stands : Stands draft lines

-- a draft stands for all lines that another one stands for: what differs is spare room
abbrev pub StandsAs : Draft → Draft → Type 0
StandsAs old new = (lines : List Line) → IsDraft old lines → IsDraft new lines

-- the last pool has no rows
abbrev pub EndsEmpty : List (List (Entity × Row)) → Type 0
EndsEmpty pools = (before : List (List (Entity × Row))) × (pools ≡ before ++ [] ∷ [])

-- so many header lines are due behind those that a header stands for
abbrev pub HeadersDue : List ℕ → ℕ → HeaderSoFar → ℕ → Type 0
HeadersDue bytes at header left = Reaches bytes at (due.Headers left) (IsHeader header)

-- so many slots are due behind the lines of a draft, and so many indices on the free list
abbrev pub SlotsDue : List ℕ → ℕ → Draft → ℕ → ℕ → Type 0
SlotsDue bytes at draft left free = Reaches bytes at (due.Slots left free) (IsDraft draft)

-- so many rows are due behind the lines of a draft
abbrev pub RowsDue : List ℕ → ℕ → Draft → ℕ → Type 0
RowsDue bytes at draft left = Reaches bytes at (due.Rows left) (IsDraft draft)

-- a row count is due behind the lines of a draft, or nothing
abbrev pub IsAtRest : List ℕ → ℕ → Draft → Type 0
IsAtRest bytes at draft = SlotsDue bytes at draft 0 0 ⊎ RowsDue bytes at draft 0

-- at a place stands a field, and the next one starts at another place
pub record IsFieldAt (bytes : List ℕ) (at : ℕ) (field : Field) (to : ℕ) : Type 0 where
  pub is : IsField field
  pub spelled : drop at bytes ≡ field_bytes field ++ drop to bytes
  pub size : to ≡ at + length (field_bytes field)

-- at a place stands no such field
abbrev pub IsNoFieldAt : List ℕ → ℕ → Field → Type 0
IsNoFieldAt bytes at field = (more : List ℕ) → IsField field → drop at bytes ≡ field_bytes field ++ more → ⊥

-- at a place stand values of these kinds, up to another place, which a row holds
pub record AreValuesAt (kinds : List Kind) (bytes : List ℕ) (at : ℕ) (row : Row) (to : ℕ) : Type 0 where
  pub values : List FieldValue
  pub of_kinds : are_of_kinds kinds values ≡ true
  pub each : AllByRecursion (IsValue version_1.profile) values
  pub spelled : drop at bytes ≡ flat_map value_bytes values ++ drop to bytes
  pub size : to ≡ at + length (flat_map value_bytes values)
  pub held : row ≡ row_of version_1.profile values

-- at a place stand no values of these kinds
abbrev pub AreNoValuesAt : List Kind → List ℕ → ℕ → Type 0
AreNoValuesAt kinds bytes at =
    (values : List FieldValue) (more : List ℕ) → are_of_kinds kinds values ≡ true → AllByRecursion (IsValue version_1.profile) values
    → drop at bytes ≡ flat_map value_bytes values ++ more → ⊥

-- at a place stands a value of this kind, of 8 bytes, which a field holds
pub record IsValueAt (kind : Kind) (bytes : List ℕ) (at : ℕ) (held : ℤ) : Type 0 where
  pub value : FieldValue
  pub of_kind : is_of_kind kind value ≡ true
  pub is : IsValue version_1.profile value
  pub spelled : drop at bytes ≡ value_bytes value ++ drop (at + 8) bytes
  pub held_is : held ≡ field_of_value version_1.profile value

-- at a place stands no value of this kind
abbrev pub IsNoValueAt : Kind → List ℕ → ℕ → Type 0
IsNoValueAt kind bytes at =
    (value : FieldValue) (more : List ℕ) → is_of_kind kind value ≡ true → IsValue version_1.profile value
    → drop at bytes ≡ value_bytes value ++ more → ⊥

-- at a place stands a number of so many bytes, which are these
pub record IsNumberAt (size : ℕ) (bytes : List ℕ) (at : ℕ) (number : ℕ) (number_bytes : List ℕ) : Type 0 where
  pub within : at + size ≤ length bytes
  pub spelled : drop at bytes ≡ number_bytes ++ drop (at + size) bytes

-- at a place stands the index of an identifier, which has the version of its slot
pub record IsEntityAt (slots : List Slot) (bytes : List ℕ) (at : ℕ) (entity : Entity) : Type 0 where
  pub within : at + 4 ≤ length bytes
  pub spelled : drop at bytes ≡ u32_bytes entity.index ++ drop (at + 4) bytes
  pub slot : Slot
  pub found : slice_get slots entity.index ≡ Some slot
  pub version : entity.version ≡ slot.version

-- at a place stands the index of no live identifier
abbrev pub IsNoEntityAt : List Slot → List ℕ → ℕ → Type 0
IsNoEntityAt slots bytes at =
    (entity : Entity) (more : List ℕ) → IsTrue (is_live slots entity) → entity.index < 2 ^ 32
    → drop at bytes ≡ u32_bytes entity.index ++ more → ⊥

-- at a place stands the length of a line, and the line behind it
pub record IsLineAt (bytes : List ℕ) (at : ℕ) (text : List ℕ) : Type 0 where
  pub within : at + 2 + length text ≤ length bytes
  pub spelled : drop at bytes ≡ line_bytes text ++ drop (at + 2 + length text) bytes
  pub short : length text ≤ line_limit

-- at a place stands no line, or one that is too long
abbrev pub IsNoLineAt : List ℕ → ℕ → Type 0
IsNoLineAt bytes at = (text more : List ℕ) → length text ≤ line_limit → drop at bytes ≡ line_bytes text ++ more → ⊥
