-- How far a text has been read.
use Rattle.std.proofs.Common.{◌≡◌, ◌≢◌, ℕ, ◌+◌, true, false, List, [], ◌∷◌, ◌++◌, length, refl, sym, ap, subst, ◌∙◌, arith, append_assoc, length-append}
use Rattle.std.specs.List.{AllByRecursion}
use Rattle.std.proofs.lemmas.List.{append-nil}
use Rattle.std.proofs.lemmas.Bool.{and_parts, and_left}
use Rattle.std.proofs.lemmas.Grind.{flat_map-append}
use Rattle.world_text.specs.declared.format.Format.{Format}
use Rattle.world_text.specs.declared.section.Section.TheVariants as section
use Rattle.world_text.specs.declared.document.Document.{Document}
use Rattle.world_text.specs.declared.draft.Draft.{Draft}
use Rattle.world_text.specs.LineKinds.{Line}
use Rattle.world_text.specs.LineKinds as line
use Rattle.world_text.specs.Lines.{IsLine, line_text, text_of}
use Rattle.world_text.specs.Sections.{is_between}
use Rattle.world_text.specs.Meaning.{pools_in}
use Rattle.world_text.specs.SystemLines.{SystemsSoFar}
use Rattle.world_text.specs.Fitting.{fits, fit_after, last_section}
use Rattle.world_text.specs.Documents.{AreAdmissible, IsDocumentOf, IsBadLineOf, IsFrontOf, IsBadFrontOf}
use Rattle.world_text.specs.Drafts.{Stands, TakesLine, RefusesLine, document_in}
use Rattle.world_text.proofs.AddingLemmas.{and_true}

-- the lines at the front of the bytes are admissible, and the draft stands for them
pub record HasRead (format : Format) (bytes : List ℕ) (draft : Draft) (count : ℕ) (rest : List ℕ) : Type 0 where
  pub lines : List Line
  pub counted : count ≡ length lines
  pub admissible : AreAdmissible format lines
  pub spelled : bytes ≡ text_of format lines ++ rest
  pub same_format : draft.format ≡ format
  pub stands : Stands draft lines

pub fit_after_push : (format : Format) (before lines : List Line) (l : Line) → fit_after format before lines ≡ true → fits format (before ++ lines) l ≡ true → fit_after format before (lines ++ l ∷ []) ≡ true
fit_after_push format before [] l fit one = and_true _ _ (subst (λ ls. fits format ls l ≡ true) (append-nil before) one) refl
fit_after_push format before (m ∷ lines) l fit one =
    let h = and_parts (fits format before m) (fit_after format (before ++ m ∷ []) lines) fit in
    and_true _ _ h.0 (fit_after_push format (before ++ m ∷ []) lines l h.1 (subst (λ ls. fits format ls l ≡ true) (sym (append_assoc before (m ∷ []) lines)) one))

pub each_push : (format : Format) (lines : List Line) (l : Line) → AllByRecursion (IsLine format) lines → IsLine format l → AllByRecursion (IsLine format) (lines ++ l ∷ [])
each_push format [] l each is = (is, tt)
each_push format (m ∷ lines) l each is = (each.0, each_push format lines l each.1 is)

pub text_push : (format : Format) (lines : List Line) (l : Line) (after : List ℕ) → text_of format lines ++ (line_text format l ++ 10 ∷ after) ≡ text_of format (lines ++ l ∷ []) ++ after
text_push format lines l after =
    ap (λ (x : List ℕ). text_of format lines ++ x) (sym (append_assoc (line_text format l) (10 ∷ []) after))
    ∙ sym (append_assoc (text_of format lines) (line_text format l ++ 10 ∷ []) after)
    ∙ ap (λ (x : List ℕ). x ++ after) (sym (flat_map-append (λ m. line_text format m ++ 10 ∷ []) lines (l ∷ []) ∙ ap (λ (x : List ℕ). text_of format lines ++ x) (append-nil (line_text format l ++ 10 ∷ []))))

-- before the first line
pub read_none : (format : Format) (bytes : List ℕ) (draft : Draft) → draft.format ≡ format → Stands draft [] → HasRead format bytes draft 0 bytes
read_none format bytes draft same stands = record { lines = []; counted = refl; admissible = record { each = tt; fit = refl }; spelled = refl; same_format = same; stands = stands }

-- after one line more
pub read_more : (format : Format) (bytes : List ℕ) (old new : Draft) (count : ℕ) (rest after : List ℕ) → HasRead format bytes old count rest → TakesLine old rest after new → HasRead format bytes new (count + 1) after
read_more format bytes old new count rest after h t =
    let is : IsLine format t.line = subst (λ f. IsLine f t.line) h.same_format t.is in
    let spelled : rest ≡ line_text format t.line ++ 10 ∷ after = subst (λ f. rest ≡ line_text f t.line ++ 10 ∷ after) h.same_format t.spelled in
    let fit : fits format h.lines t.line ≡ true = subst (λ f. fits f h.lines t.line ≡ true) h.same_format (t.taken.fit h.lines h.stands) in
    record {
      lines = h.lines ++ t.line ∷ [];
      counted = omega (arith, h.counted, length-append h.lines (t.line ∷ []));
      admissible = record { each = each_push format h.lines t.line h.admissible.each is; fit = fit_after_push format [] h.lines t.line h.admissible.fit fit };
      spelled = h.spelled ∙ ap (λ (x : List ℕ). text_of format h.lines ++ x) spelled ∙ text_push format h.lines t.line after;
      same_format = t.taken.format ∙ h.same_format;
      stands = t.taken.stands h.lines h.stands;
    }

bad_here : (format : Format) (bytes : List ℕ) (draft : Draft) (count : ℕ) (rest : List ℕ) → HasRead format bytes draft count rest → RefusesLine draft rest → draft.section ≢ section.End → IsBadLineOf format bytes (count + 1)
bad_here format bytes draft count rest h none unfinished = record {
  lines = h.lines;
  rest = rest;
  counted = omega (arith, h.counted);
  admissible = h.admissible;
  spelled = h.spelled;
  no_line = λ l more is e.
      let in_draft : IsLine draft.format l = subst (λ f. IsLine f l) (sym h.same_format) is in
      let spelled : rest ≡ line_text draft.format l ++ 10 ∷ more = subst (λ f. rest ≡ line_text f l ++ 10 ∷ more) (sym h.same_format) e in
      subst (λ f. fits f h.lines l ≡ false) h.same_format (none l more in_draft spelled h.lines h.stands);
  no_end = λ empty ended. unfinished (h.stands.section ∙ ended);
}

-- the next line is the first bad one where no line that fits begins the rest, and the document hasn't ended
pub bad_next : (format : Format) (bytes : List ℕ) (draft : Draft) (count : ℕ) (rest : List ℕ) → HasRead format bytes draft count rest → RefusesLine draft rest → draft.section ≢ section.End → IsBadFrontOf format bytes (count + 1)
unfolding bad_here
bad_next format bytes draft count rest h none unfinished = record {
  bad = bad_here format bytes draft count rest h none unfinished;
  unfinished = λ ended. unfinished (h.stands.section ∙ ended);
}

-- a draft whose lines are read up to the end stands for the document at the front
pub front_read : (format : Format) (bytes : List ℕ) (draft : Draft) (count : ℕ) (rest : List ℕ) (document : Document) → HasRead format bytes draft count rest → draft.section ≡ section.End → document ≡ document_in draft → IsFrontOf format bytes document count rest
front_read format bytes draft count rest document h ended is = record {
  lines = h.lines;
  admissible = h.admissible;
  ended = sym h.stands.section ∙ ended;
  counted = h.counted;
  spelled = h.spelled;
  world_is = ap (λ (d : Document). d.world) is ∙ (λ i. record {
    profile = (h.same_format i).profile;
    decls = h.stands.decls i;
    groups = h.stands.groups i;
    tick = h.stands.tick i;
    slots = h.stands.slots i;
    free = h.stands.free i;
    pools = (h.stands.pools ∙ ap (λ f. pools_in f.profile h.lines) h.same_format) i;
  });
  systems_are = ap (λ (d : Document). d.systems) is ∙ ap (λ (systems : SystemsSoFar). systems.closed) h.stands.systems;
}

-- a document at the front with nothing behind it is the whole text
pub whole_front : (format : Format) (bytes : List ℕ) (document : Document) (count : ℕ) → IsFrontOf format bytes document count [] → IsDocumentOf format bytes document
whole_front format bytes document count h = record {
  lines = h.lines;
  admissible = h.admissible;
  ended = h.ended;
  spelled = h.spelled ∙ append-nil (text_of format h.lines);
  world_is = h.world_is;
  systems_are = h.systems_are;
}

-- no line is admissible behind the end
pub fits_nowhere : (format : Format) (before : List Line) (l : Line) → last_section before ≡ section.End → fits format before l ≡ false
fits_nowhere format before line.Version ended = ap (is_between section.Start section.Start) ended
fits_nowhere format before (line.Component decl) ended = and_left _ _ (ap (is_between section.Version section.Components) ended)
fits_nowhere format before (line.Group named) ended = and_left _ _ (ap (is_between section.Version section.Groups) ended)
fits_nowhere format before (line.System name) ended = and_left _ _ (ap (is_between section.Version section.Systems) ended)
fits_nowhere format before (line.Body names body) ended = and_left _ _ (ap (is_between section.Systems section.Systems) ended)
fits_nowhere format before (line.Tick tick) ended = and_left _ _ (ap (is_between section.Version section.Systems) ended)
fits_nowhere format before (line.Slot slot) ended = and_left _ _ (ap (is_between section.Tick section.Slots) ended)
fits_nowhere format before (line.Next index) ended = and_left _ _ (ap (is_between section.Tick section.FreeList) ended)
fits_nowhere format before (line.Pool name) ended = and_left _ _ (ap (is_between section.Tick section.Pools) ended)
fits_nowhere format before (line.Row entity values) ended = and_left _ _ (ap (is_between section.Pools section.Pools) ended)
fits_nowhere format before line.End ended = and_left _ _ (ap (is_between section.Tick section.Pools) ended)

-- what stands behind a document makes the next line the first bad one
pub bad_behind : (format : Format) (bytes : List ℕ) (document : Document) (count : ℕ) (rest : List ℕ) → IsFrontOf format bytes document count rest → rest ≢ [] → IsBadLineOf format bytes (count + 1)
bad_behind format bytes document count rest h more = record {
  lines = h.lines;
  rest = rest;
  counted = omega (arith, h.counted);
  admissible = h.admissible;
  spelled = h.spelled;
  no_line = λ l after is e. fits_nowhere format h.lines l h.ended;
  no_end = λ empty. absurd (more empty);
}
