-- A text is a document, or has a bad line: none is neither. The same of the document at a text's front, of scripts, and of a document with a script.
use Rattle.std.proofs.Common.{◌≡◌, ◌≢◌, inl, inr, ℕ, zero, suc, ◌+◌, ◌<◌, List, [], ◌∷◌, ◌++◌, length, length-append, refl, ap, ◌∙◌, arith}
use Rattle.std.proofs.lemmas.Bool.{cases_Bool}
use Rattle.entity_id.specs.declared.entity.Profile.{Profile}
use Rattle.world_model.specs.declared.component.Decl.{Decl}
use Rattle.world_text.specs.declared.document.Document.{Document}
use Rattle.world_text.specs.declared.format.Format.{Format}
use Rattle.world_text.specs.declared.section.Section.TheVariants as section
use Rattle.world_text.specs.declared.script.ScriptLine.{ScriptLine}
use Rattle.world_text.specs.Documents.{AreAdmissible, IsDocumentOf, IsBadLineOf, IsFrontOf, IsBadFrontOf}
use Rattle.world_text.specs.Fitting.{fits, last_section}
use Rattle.world_text.specs.Formats.{version_1}
use Rattle.world_text.specs.LineKinds.{Line}
use Rattle.world_text.specs.Lines.{line_text, text_of}
use Rattle.world_text.specs.Meaning.{world_of}
use Rattle.world_text.specs.SystemLines.{systems_in}
use Rattle.world_text.specs.Scripts.{IsBegun, IsScript, IsBadScriptLine, IsScripted, IsBadScriptedLine, last_line}
use Rattle.world_text.proofs.BegunLemmas.{begun_none, begun-push, begun_whole, begun_bad, begun_more, line_shortens}
use Rattle.world_text.proofs.ReadingLemmas.{each_push, fit_after_push, text_push, whole_front, bad_behind}

-- ---- the document at the front

module _ (format : Format) (bytes : List ℕ) (no_front : (document : Document) (count : ℕ) (rest : List ℕ) → IsFrontOf format bytes document count rest → ⊥) (no_bad : (number : ℕ) → IsBadFrontOf format bytes number → ⊥) where
  -- admissible lines have not reached the end
  unfinished : (lines : List Line) (rest : List ℕ) → AreAdmissible format lines → bytes ≡ text_of format lines ++ rest → last_section lines ≢ section.End
  unfinished lines rest admissible spelled ended =
      no_front (record { world = world_of format lines; systems = (systems_in lines).closed }) (length lines) rest (record {
        lines = lines;
        admissible = admissible;
        ended = ended;
        counted = refl;
        spelled = spelled;
        world_is = refl;
        systems_are = refl;
      })

  -- so a further one would have to follow, without end
  no_lines : (most : ℕ) (lines : List Line) (rest : List ℕ) → length rest < most → AreAdmissible format lines → bytes ≡ text_of format lines ++ rest → ⊥
  no_lines zero lines rest few admissible spelled = omega arith
  no_lines (suc most) lines rest few admissible spelled =
      let not_yet = unfinished lines rest admissible spelled in
      no_bad (length lines + 1) (record {
        bad = record {
          lines = lines;
          rest = rest;
          counted = refl;
          admissible = admissible;
          spelled = spelled;
          no_line = λ l more is e. elim (cases_Bool (fits format lines l)) [
            | inr not ↦ not
            | inl fit ↦ absurd (no_lines most (lines ++ l ∷ []) more
                (omega (arith, ap length e, length-append (line_text format l) (10 ∷ more)))
                (record { each = each_push format lines l admissible.each is; fit = fit_after_push format [] lines l admissible.fit fit })
                (spelled ∙ ap (λ (x : List ℕ). text_of format lines ++ x) e ∙ text_push format lines l more))
          ];
          no_end = λ empty. not_yet;
        };
        unfinished = not_yet;
      })

  pub front_or_bad : ⊥
  front_or_bad = no_lines (suc (length bytes)) [] bytes (omega arith) (record { each = tt; fit = refl }) refl

-- ---- a whole document

pub document_or_bad : (format : Format) (bytes : List ℕ) → ((document : Document) → IsDocumentOf format bytes document → ⊥) → ((number : ℕ) → IsBadLineOf format bytes number → ⊥) → ⊥
document_or_bad format bytes no_document no_bad = front_or_bad format bytes no_front (λ number bad. no_bad number bad.bad)
  where
    no_front : (document : Document) (count : ℕ) (rest : List ℕ) → IsFrontOf format bytes document count rest → ⊥
    no_front document count [] front = no_document document (whole_front format bytes document count front)
    no_front document count (byte ∷ rest) front = no_bad (count + 1) (bad_behind format bytes document count (byte ∷ rest) front (λ e. absurd cc))

-- ---- a script

module _ (profile : Profile) (decls : List Decl) (text : List ℕ) (no_script : (lines : List ScriptLine) → IsScript profile decls text lines → ⊥) (no_bad : (number : ℕ) → IsBadScriptLine profile decls text number → ⊥) where
  -- lines of a script are not followed by its end
  no_end : (lines : List ScriptLine) (rest more : List ℕ) → IsBegun profile decls text lines rest → rest ≢ last_line ++ more
  no_end lines rest [] begun ends = no_script lines (begun_whole profile decls text lines rest [] begun ends refl)
  no_end lines rest (byte ∷ more) begun ends = no_bad (length lines + 3) (begun_more profile decls text lines rest (byte ∷ more) (length lines + 3) begun ends (λ e. absurd cc) refl)

  -- so a further one would have to follow, without end
  no_script_lines : (most : ℕ) (lines : List ScriptLine) (rest : List ℕ) → length rest < most → IsBegun profile decls text lines rest → ⊥
  no_script_lines zero lines rest few begun = omega arith
  no_script_lines (suc most) lines rest few begun =
      no_bad (length lines + 2) (begun_bad profile decls text lines rest (length lines + 2) begun
      (λ line more first. no_script_lines most (lines ++ line ∷ []) more (let shorter = line_shortens profile decls rest line more first in omega arith) (begun-push profile decls text lines rest line more begun first))
      (λ more. no_end lines rest more begun)
      refl)

  pub script_or_bad : ⊥
  script_or_bad = no_bad 1 (inl (refl, λ more e. no_script_lines (suc (length more)) [] more (omega arith) (begun_none profile decls text more e)))

-- ---- both

pub scripted_or_bad : (bytes : List ℕ) → ((document : Document) (script : List ScriptLine) → IsScripted bytes document script → ⊥) → ((number : ℕ) → IsBadScriptedLine bytes number → ⊥) → ⊥
scripted_or_bad bytes no_scripted no_bad =
    front_or_bad version_1 bytes
    (λ document count rest front.
    script_or_bad version_1.profile document.world.decls rest
    (λ lines script. no_scripted document lines (record { count = count; rest = rest; front = front; behind = script }))
    (λ number bad. no_bad (count + number) (inr (record {
      document = document;
      count = count;
      rest = rest;
      front = front;
      number_there = number;
      bad = bad;
      counted = refl;
    }))))
    (λ number bad. no_bad number (inl bad))
