-- The lines of admissible fields are admissible, and with nothing missing they are a lawful document's.
use Rattle.std.proofs.Common.{◌≡◌, ℕ, true, ◌≤◌, nat_le, List, [], ◌∷◌, ◌++◌, refl, subst, arith}
use Rattle.std.specs.List.{AllByRecursion}
use Rattle.std.proofs.lemmas.Bool.{and_parts}
use Rattle.std.proofs.lemmas.Bool.Decides.{nat_tests}
use Rattle.entity_id.proofs.ListLemmas.{all-append}
use Rattle.world_text.specs.declared.document.Document.{Document}
use Rattle.world_text.specs.declared.section.Section.TheVariants as section
use Rattle.world_text.specs.Formats.{version_1}
use Rattle.world_text.specs.LineKinds.{Line}
use Rattle.world_text.specs.LineKinds as line
use Rattle.world_text.specs.Lines.{IsLine, text_of}
use Rattle.world_text.specs.Meaning.{world_of}
use Rattle.world_text.specs.SystemLines.{systems_in}
use Rattle.world_text.specs.Sections.{order}
use Rattle.world_text.specs.Fitting.{fits, fit_after, last_section}
use Rattle.world_text.specs.Documents as documents
use Rattle.world_text.proofs.LawfulLemmas.{document_is_lawful, version_1_is_format}
use Rattle.world_text.proofs.MeaningLemmas.{last_section_push}
use Rattle.world_text.proofs.PrintedFits.{fit_append}
use Rattle.world_text.proofs.ReadingLemmas.{fit_after_push, each_push}
use Rattle.snapshot.specs.Fields.{Field, IsField, line_in, bytes_of}
use Rattle.snapshot.specs.Snapshots.{lines_of_fields, is_fitting, are_fitting, AreAdmissible, is_whole, IsSnapshot}
use Rattle.snapshot.proofs.ReachLemmas.{lines_push}

each_line : (fields : List Field) → AllByRecursion IsField fields → AllByRecursion (IsLine version_1) (lines_of_fields fields)
each_line [] each = tt
each_line (f ∷ fields) each = all-append (IsLine version_1) (line_in f) (lines_of_fields fields) each.0.line (each_line fields each.1)

lines_fit : (before fields : List Field) → are_fitting before fields ≡ true → fit_after version_1 (lines_of_fields before) (lines_of_fields fields) ≡ true
lines_fit before [] fit = refl
lines_fit before (f ∷ fields) fit =
    let h = and_parts (is_fitting before f) (are_fitting (before ++ f ∷ []) fields) fit in
    let here : fit_after version_1 (lines_of_fields before) (line_in f) ≡ true = (and_parts _ _ (and_parts _ _ h.0).1).1 in
    fit_append version_1 (lines_of_fields before) (line_in f) (lines_of_fields fields) here
    (subst (λ (ls : List Line). fit_after version_1 ls (lines_of_fields fields) ≡ true) (lines_push before f) (lines_fit (before ++ f ∷ []) fields h.1))

-- the lines of admissible fields are admissible
pub lines_admissible : (fields : List Field) → AreAdmissible fields → documents.AreAdmissible version_1 (lines_of_fields fields)
lines_admissible fields h = record { each = each_line fields h.each; fit = lines_fit [] fields h.fit }

-- before its end a document is nowhere past its pools
before_end : (lines : List Line) → fits version_1 lines line.End ≡ true → last_section (lines ++ line.End ∷ []) ≡ section.End
before_end lines ends =
    let placed = and_parts (nat_le 5 (order (last_section lines))) (nat_le (order (last_section lines)) 8) (and_parts _ _ ends).0 in
    let early : order (last_section lines) ≤ 8 = grind (arith, nat_tests) in
    last_section_push lines line.End (omega (arith, early))

-- lines that may end are a document, with its end behind them
pub is_document : (lines : List Line) → documents.AreAdmissible version_1 lines → fits version_1 lines line.End ≡ true → documents.IsDocument (text_of version_1 (lines ++ line.End ∷ [])) (record { world = world_of version_1 (lines ++ line.End ∷ []); systems = (systems_in (lines ++ line.End ∷ [])).closed })
is_document lines h ends = record {
  lines = lines ++ line.End ∷ [];
  admissible = record { each = each_push version_1 lines line.End h.each tt; fit = fit_after_push version_1 [] lines line.End h.fit ends };
  ended = before_end lines ends;
  spelled = refl;
  world_is = refl;
  systems_are = refl;
}

-- admissible fields with nothing missing are a snapshot
pub snapshot_of : (bytes : List ℕ) (fields : List Field) → AreAdmissible fields → is_whole fields ≡ true → bytes ≡ bytes_of fields → (document : Document) × IsSnapshot bytes document
snapshot_of bytes fields admissible whole spelled =
    let lines = lines_of_fields fields in
    let ends : fits version_1 (lines_of_fields fields) line.End ≡ true = (and_parts _ _ whole).1 in (
      record { world = world_of version_1 (lines ++ line.End ∷ []); systems = (systems_in (lines ++ line.End ∷ [])).closed },
      record {
        fields = fields;
        admissible = admissible;
        whole = whole;
        spelled = spelled;
        stands = is_document lines (lines_admissible fields admissible) ends;
      },
    )

-- what a snapshot stands for is lawful
pub snapshot_is_lawful : (bytes : List ℕ) (document : Document) → IsSnapshot bytes document → documents.IsLawfulDocument document
snapshot_is_lawful bytes document h = document_is_lawful version_1 _ document version_1_is_format h.stands
