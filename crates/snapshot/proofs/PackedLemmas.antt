-- The snapshot of a lawful document stands for it.
use Rattle.std.proofs.Common.{◌≡◌, true, List, [], ◌∷◌, ◌++◌, refl, sym, subst, append_assoc}
use Rattle.std.specs.List.{AllByRecursion}
use Rattle.std.proofs.lemmas.Bool.{and_parts}
use Rattle.std.proofs.lemmas.List.{append-nil}
use Rattle.world_text.specs.declared.document.Document.{Document}
use Rattle.world_text.specs.Formats.{version_1}
use Rattle.world_text.specs.LineKinds.{Line}
use Rattle.world_text.specs.LineKinds as line
use Rattle.world_text.specs.Lines.{IsLine, text_of}
use Rattle.world_text.specs.Fitting.{fits, fit_after}
use Rattle.world_text.specs.Documents.{IsDocument, IsLawfulDocument}
use Rattle.world_text.proofs.AddingLemmas.{and_true}
use Rattle.world_text.proofs.PrintedLemmas.{printed_is_document, printed_admissible}
use Rattle.world_text.proofs.LawfulLemmas.{version_1_is_format}
use Rattle.world_text.proofs.UniqueLemmas.{fits_next}
use Rattle.snapshot.specs.Fields.{Field, line_in}
use Rattle.snapshot.specs.Due.{Due, is_due, due_behind}
use Rattle.snapshot.specs.Due as due
use Rattle.snapshot.specs.Packing.{fields_of, snapshot}
use Rattle.snapshot.specs.Snapshots.{lines_of_fields, has_few_rows, are_fitting, AreAdmissible, is_whole, IsSnapshot}
use Rattle.snapshot.proofs.ReachLemmas.{due_push, lines_push}
use Rattle.snapshot.proofs.PackedLines.{lines_are}
use Rattle.snapshot.proofs.PackedDue.{are_due, due_end, document_due}
use Rattle.snapshot.proofs.PackedFew.{few_in, document_few}
use Rattle.snapshot.proofs.PackedWithin.{all_split, each_of_parts, document_within}

-- lines that fit, part by part
fit_parts : (before a b : List Line) → fit_after version_1 before (a ++ b) ≡ true → (fit_after version_1 before a ≡ true) × (fit_after version_1 (before ++ a) b ≡ true)
fit_parts before [] b fit = (refl, subst (λ (ls : List Line). fit_after version_1 ls b ≡ true) (sym (append-nil before)) fit)
fit_parts before (l ∷ a) b fit =
    let h = and_parts (fits version_1 before l) (fit_after version_1 (before ++ l ∷ []) (a ++ b)) fit in
    let others = fit_parts (before ++ l ∷ []) a b h.1 in
    (and_true _ _ h.0 others.0, subst (λ (ls : List Line). fit_after version_1 ls b ≡ true) (append_assoc before (l ∷ []) a) others.1)

-- fields are admissible where each is due, rows are few and their lines are admissible
fitting_by_parts : (before fields : List Field) → are_due (due_behind before) fields ≡ true → few_in (lines_of_fields before) fields ≡ true → fit_after version_1 (lines_of_fields before) (lines_of_fields fields) ≡ true → are_fitting before fields ≡ true
unfolding are_due few_in
fitting_by_parts before [] dues few fit = refl
fitting_by_parts before (f ∷ fields) dues few fit =
    let next = and_parts (is_due (due_behind before) f) _ dues in
    let rows = and_parts (has_few_rows (lines_of_fields before) f) _ few in
    let lines = fit_parts (lines_of_fields before) (line_in f) (lines_of_fields fields) fit in
    let behind : are_fitting (before ++ f ∷ []) fields ≡ true =
    fitting_by_parts (before ++ f ∷ []) fields
    (subst (λ (d : Due). are_due d fields ≡ true) (sym (due_push due.Mark before f)) next.1)
    (subst (λ (ls : List Line). few_in ls fields ≡ true) (sym (lines_push before f)) rows.1)
    (subst (λ (ls : List Line). fit_after version_1 ls (lines_of_fields fields) ≡ true) (sym (lines_push before f)) lines.1) in
    and_true _ _ (and_true _ _ next.0 (and_true _ _ rows.0 lines.0)) behind

packed_is_admissible : (d : Document) → IsLawfulDocument d → AreAdmissible (fields_of d)
packed_is_admissible d lawful =
    let printed = printed_admissible version_1 d lawful in
    let e = lines_are d lawful.profile in
    let fit : fit_after version_1 [] (lines_of_fields (fields_of d) ++ line.End ∷ []) ≡ true = subst (λ (ls : List Line). fit_after version_1 [] ls ≡ true) e printed.fit in
    record {
      each = each_of_parts (fields_of d) (all_split (IsLine version_1) (lines_of_fields (fields_of d)) (line.End ∷ []) (subst (AllByRecursion (IsLine version_1)) e printed.each)).0 (document_within d lawful);
      fit = fitting_by_parts [] (fields_of d) (document_due d lawful) (document_few d lawful) (fit_parts [] (lines_of_fields (fields_of d)) (line.End ∷ []) fit).0;
    }

packed_is_whole : (d : Document) → IsLawfulDocument d → is_whole (fields_of d) ≡ true
packed_is_whole d lawful =
    let printed = printed_admissible version_1 d lawful in
    let fit : fit_after version_1 [] (lines_of_fields (fields_of d) ++ line.End ∷ []) ≡ true = subst (λ (ls : List Line). fit_after version_1 [] ls ≡ true) (lines_are d lawful.profile) printed.fit in
    and_true _ _ (due_end due.Mark (fields_of d) (document_due d lawful)) (fits_next version_1 version_1_is_format [] (lines_of_fields (fields_of d)) [] line.End fit)

pub packed_is_snapshot : (d : Document) → IsLawfulDocument d → IsSnapshot (snapshot d) d
packed_is_snapshot d lawful = record {
  fields = fields_of d;
  admissible = packed_is_admissible d lawful;
  whole = packed_is_whole d lawful;
  spelled = refl;
  stands = subst (λ (ls : List Line). IsDocument (text_of version_1 ls) d) (lines_are d lawful.profile) (printed_is_document d lawful);
}
