-- The fields of a lawful document are fields: their counts are within the limits.
use Rattle.std.proofs.Common.{ℕ, ◌≤◌, List, [], ◌∷◌, ◌++◌, map, length, arith}
use Rattle.std.specs.List.{flat_map, AllByRecursion, AllZip, zip}
use Rattle.entity_id.specs.declared.entity.Entity.{Entity}
use Rattle.entity_id.specs.declared.entity.Profile.{Profile}
use Rattle.entity_id.proofs.ListLemmas.{all-append}
use Rattle.world_model.specs.declared.component.Decl.{Decl}
use Rattle.world_model.specs.declared.component.Row.{Row}
use Rattle.world_model.specs.declared.slot.Slot.{Slot}
use Rattle.world_model.specs.Worlds.{AreLawfulRows}
use Rattle.world_text.specs.declared.document.Document.{Document}
use Rattle.world_text.specs.Formats.{version_1}
use Rattle.world_text.specs.LineKinds.{Line}
use Rattle.world_text.specs.LineKinds as line
use Rattle.world_text.specs.Lines.{IsLine}
use Rattle.world_text.specs.Headers.{IsHeaderLine}
use Rattle.world_text.specs.Documents.{IsLawfulDocument, header_of}
use Rattle.snapshot.specs.Fields.{Field, IsField, IsWithin, line_in}
use Rattle.snapshot.specs.Fields as field
use Rattle.snapshot.specs.Packing.{fields_of, pool_fields, row_field}
use Rattle.snapshot.specs.Snapshots.{lines_of_fields}
use Rattle.snapshot.proofs.FewLemmas.{header_few, rows_few, live_few}
use Rattle.snapshot.proofs.ShortLemmas.{IsShort, IsHeaderForm, header_formed, header_short}

pub all_split : {X : Type 0} (P : X → Type 0) (xs ys : List X) → AllByRecursion P (xs ++ ys) → AllByRecursion P xs × AllByRecursion P ys
all_split P [] ys h = (tt, h)
all_split P (x ∷ xs) ys h = let others = all_split P xs ys h.1 in ((h.0, others.0), others.1)

pub each_of_parts : (fields : List Field) → AllByRecursion (IsLine version_1) (lines_of_fields fields) → AllByRecursion IsWithin fields → AllByRecursion IsField fields
each_of_parts [] lines within = tt
each_of_parts (f ∷ fields) lines within =
    let h = all_split (IsLine version_1) (line_in f) (lines_of_fields fields) lines in
    (record { line = h.0; within = within.0 }, each_of_parts fields h.1 within.1)

header_line_of : (decls : List Decl) (l : Line) → IsHeaderForm decls l → IsHeaderLine l
header_line_of decls (line.Component decl) form = tt
header_line_of decls (line.Group named) form = tt
header_line_of decls (line.System name) form = tt
header_line_of decls (line.Body names body) form = tt
header_line_of decls _ form = absurd form

headers_within : (decls : List Decl) (lines : List Line) → AllByRecursion (IsHeaderForm decls) lines → AllByRecursion IsShort lines → AllByRecursion IsWithin (map field.Header lines)
headers_within decls [] forms short = tt
headers_within decls (l ∷ lines) forms short = ((header_line_of decls l forms.0, short.0), headers_within decls lines forms.1 short.1)

slots_within : (slots : List Slot) → AllByRecursion IsWithin (map field.Slot slots)
slots_within [] = tt
slots_within (slot ∷ slots) = (tt, slots_within slots)

nexts_within : (free : List ℕ) → AllByRecursion IsWithin (map field.Next free)
nexts_within [] = tt
nexts_within (index ∷ free) = (tt, nexts_within free)

rows_within : (decl : Decl) (rows : List (Entity × Row)) → AllByRecursion IsWithin (map (row_field decl) rows)
rows_within decl [] = tt
rows_within decl (entry ∷ rows) = (tt, rows_within decl rows)

pools_within : (profile : Profile) (slots : List Slot) (decls : List Decl) (pools : List (List (Entity × Row))) → length slots ≤ 1048575 → AllZip (AreLawfulRows profile slots) decls pools → AllByRecursion IsWithin (flat_map pool_fields (zip decls pools))
pools_within profile slots [] pools few lawful = tt
pools_within profile slots (decl ∷ decls) [] few lawful = tt
pools_within profile slots (decl ∷ decls) (rows ∷ pools) few lawful =
    all-append IsWithin (pool_fields (decl, rows)) (flat_map pool_fields (zip decls pools))
    (omega (arith, few, rows_few profile slots decl rows lawful.0, live_few slots), rows_within decl rows)
    (pools_within profile slots decls pools few lawful.1)

pub document_within : (d : Document) → IsLawfulDocument d → AllByRecursion IsWithin (fields_of d)
document_within d lawful =
    let w = d.world in (
      tt,
      (
        tt,
        (
          header_few d lawful,
          all-append IsWithin (map field.Header (header_of d)) _ (headers_within w.decls (header_of d) (header_formed d lawful) (header_short d lawful)) (
            tt,
            (
              lawful.world.slots.few,
              all-append IsWithin (map field.Slot w.slots) _ (slots_within w.slots)
                  (all-append IsWithin (map field.Next w.free) _ (nexts_within w.free) (pools_within w.profile w.slots w.decls w.pools lawful.world.slots.few lawful.world.pools)),
            ),
          ),
        ),
      ),
    )
