-- The lines of a header's text.
use Rattle.std.proofs.Common.{◌≡◌, ℕ, List, [], ◌∷◌, ◌++◌, length, length-append, map, refl, sym, ap, ap₂, subst, ◌∙◌, arith, append_assoc}
use Rattle.std.specs.List.{AllByRecursion, flat_map}
use Rattle.std.proofs.lemmas.List.{append-nil}
use Rattle.std.proofs.lemmas.Grind.{flat_map-append}
use Rattle.entity_id.specs.Cuts.{IsCut, Lacks}
use Rattle.entity_id.proofs.CutLemmas.{same_cut, no_cut}
use Rattle.entity_id.proofs.ListLemmas.{all-append}
use Rattle.world_text.specs.declared.document.Document.{Document}
use Rattle.world_text.specs.LineKinds.{Line}
use Rattle.world_text.specs.Documents.{IsLawfulDocument, header_of}
use Rattle.world_text.specs.Formats.{version_1}
use Rattle.world_text.specs.Headers.{AreLinesOf}
use Rattle.world_text.specs.Lines.{IsLine, line_text, text_of}
use Rattle.world_text.proofs.LawfulLemmas.{version_1_is_format}
use Rattle.world_text.proofs.LineLemmas.{line_lacks}
use Rattle.world_text.proofs.PrintedLemmas.{header_spelled}

abbrev ended : List ℕ → List ℕ
ended l = l ++ 10 ∷ []

-- a line more
pub more_lines : (text : List ℕ) (lines : List (List ℕ)) (line rest behind : List ℕ) → text ≡ flat_map ended lines ++ rest → IsCut rest 10 line behind → text ≡ flat_map ended (lines ++ line ∷ []) ++ behind
more_lines text lines line rest behind whole cut =
    whole
    ∙ ap (λ (t : List ℕ). flat_map ended lines ++ t) (cut.whole ∙ sym (append_assoc line (10 ∷ []) behind))
    ∙ sym (append_assoc (flat_map ended lines) (ended line) behind)
    ∙ ap (λ (t : List ℕ). t ++ behind) (sym (flat_map-append ended lines (line ∷ []) ∙ ap (λ (t : List ℕ). flat_map ended lines ++ t) (append-nil (ended line))))

pub each_more : (lines : List (List ℕ)) (line : List ℕ) → AllByRecursion (Lacks 10) lines → Lacks 10 line → AllByRecursion (Lacks 10) (lines ++ line ∷ [])
each_more lines line each lacks = all-append (Lacks 10) lines (line ∷ []) each (lacks, tt)

regroup : (l behind rest : List ℕ) → (ended l ++ behind) ++ rest ≡ l ++ 10 ∷ (behind ++ rest)
regroup l behind rest = append_assoc (ended l) behind rest ∙ append_assoc l (10 ∷ []) (behind ++ rest)

-- a text of lines is cut into them
same_lines : (ls : List Line) (lines : List (List ℕ)) (rest : List ℕ) → AllByRecursion (IsLine version_1) ls → AllByRecursion (Lacks 10) lines → Lacks 10 rest → flat_map ended lines ++ rest ≡ text_of version_1 ls → lines ≡ map (line_text version_1) ls
same_lines [] [] rest is each last e = refl
same_lines [] (l ∷ lines) rest is each last e = absurd (omega (arith, ap length (sym (regroup l (flat_map ended lines) rest) ∙ e), length-append l (10 ∷ (flat_map ended lines ++ rest))))
same_lines (m ∷ ls) [] rest is each last e = absurd (no_cut 10 (line_text version_1 m) (text_of version_1 ls) (subst (Lacks 10) (e ∙ append_assoc (line_text version_1 m) (10 ∷ []) (text_of version_1 ls)) last))
same_lines (m ∷ ls) (l ∷ lines) rest is each last e =
    let cut = same_cut 10 l (line_text version_1 m) (flat_map ended lines ++ rest) (text_of version_1 ls) each.0 (line_lacks version_1 m version_1_is_format is.0) (sym (regroup l (flat_map ended lines) rest) ∙ e ∙ append_assoc (line_text version_1 m) (10 ∷ []) (text_of version_1 ls)) in
    ap₂ (λ (x : List ℕ) xs. x ∷ xs) cut.0 (same_lines ls lines rest is.1 each.1 last cut.1)

-- the lines of a lawful document's header
pub header_split : (document : Document) (text : List ℕ) (lines : List (List ℕ)) → IsLawfulDocument document → text ≡ text_of version_1 (header_of document) → AreLinesOf text lines → lines ≡ map (line_text version_1) (header_of document)
header_split document text lines lawful e are =
    same_lines (header_of document) lines are.rest (header_spelled document lawful) are.each are.last (sym are.whole ∙ e)
