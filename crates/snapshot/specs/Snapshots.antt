-- Snapshots: which bytes stand for which document, and where the first bad field of other bytes starts.
use Rattle.std.specs.Prelude.{◌≡◌, ℕ, Bool, true, false, ◌&&◌, nat_le, List, [], ◌∷◌, ◌++◌, length, count_by}
use Rattle.std.specs.List.{flat_map, AllByRecursion}
use Rattle.world_text.specs.declared.document.Document.{Document}
use Rattle.world_text.specs.LineKinds.{Line}
use Rattle.world_text.specs.LineKinds as line
use Rattle.world_text.specs.Formats.{version_1}
use Rattle.world_text.specs.Lines.{text_of}
use Rattle.world_text.specs.Meaning.{slot_in}
use Rattle.world_text.specs.Fitting.{fits, fit_after}
use Rattle.world_text.specs.Documents.{IsDocument}
use Rattle.snapshot.specs.Fields.{Field, IsField, line_in, field_bytes, bytes_of}
use Rattle.snapshot.specs.Fields as field
use Rattle.snapshot.specs.Due.{is_due, due_behind, may_end}

-- the lines that say the same as fields
abbrev pub lines_of_fields : List Field → List Line
lines_of_fields fields = flat_map line_in fields

-- how many live slots lines have
abbrev pub live_count : List Line → ℕ
live_count lines = count_by (λ slot. slot.live) (flat_map slot_in lines)

-- whether a component has no more rows than there are live slots
abbrev pub has_few_rows : List Line → Field → Bool
has_few_rows lines (field.RowCount name count) = nat_le count (live_count lines)
has_few_rows lines _ = true

-- whether what a field says is admissible behind these lines: its line is, by the same clause as in a document
abbrev pub admits : List Line → Field → Bool
admits lines field = has_few_rows lines field && fit_after version_1 lines (line_in field)

-- whether a field is admissible after the fields before it: it is due, and what it says is admissible behind their lines
abbrev pub is_fitting : List Field → Field → Bool
is_fitting before field = is_due (due_behind before) field && admits (lines_of_fields before) field

-- whether each field is admissible after those before it
abbrev pub are_fitting : List Field → List Field → Bool
are_fitting before [] = true
are_fitting before (field ∷ fields) = is_fitting before field && are_fitting (before ++ field ∷ []) fields

-- admissible fields
pub record AreAdmissible (fields : List Field) : Type 0 where
  pub each : AllByRecursion IsField fields
  pub fit : are_fitting [] fields ≡ true

-- whether nothing is missing behind fields: nothing more is due, and the document of their lines may end
abbrev pub is_whole : List Field → Bool
is_whole fields = may_end (due_behind fields) && fits version_1 (lines_of_fields fields) line.End

-- bytes are a snapshot of a document: admissible fields, with nothing missing, whose lines, with `end` behind them, are that document's
pub record IsSnapshot (bytes : List ℕ) (document : Document) : Type 0 where
  pub fields : List Field
  pub admissible : AreAdmissible fields
  pub whole : is_whole fields ≡ true
  pub spelled : bytes ≡ bytes_of fields
  pub stands : IsDocument (text_of version_1 (lines_of_fields fields ++ line.End ∷ [])) document

-- the first field that is not admissible, or that is missing, starts here: the fields before it are admissible, what stands behind them
-- does not begin with an admissible field, and where nothing stands there something is missing
pub record IsBadField (bytes : List ℕ) (offset : ℕ) : Type 0 where
  pub fields : List Field
  pub rest : List ℕ
  pub starts : offset ≡ length (bytes_of fields)
  pub admissible : AreAdmissible fields
  pub spelled : bytes ≡ bytes_of fields ++ rest
  pub no_field : (f : Field) (more : List ℕ) → IsField f → rest ≡ field_bytes f ++ more → is_fitting fields f ≡ false
  pub no_end : rest ≡ [] → is_whole fields ≡ false
