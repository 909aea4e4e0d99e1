-- Header lines that are added to a draft of such lines alone.
use Rattle.std.proofs.Common.{◌≡◌, ℕ, ◌≤◌, true, false, List, [], ◌∷◌, ◌++◌, get_or, sym, ap, subst, ◌∙◌, arith, leb}
use Rattle.std.proofs.lemmas.Bool.{and_parts, leb-true}
use Rattle.entity_id.specs.Cuts.{Lacks, IsCut}
use Rattle.entity_id.proofs.CutLemmas.{same_cut, no_cut}
use Rattle.world_text.specs.declared.draft.Draft.{Draft}
use Rattle.world_text.specs.declared.format.Format.{Format}
use Rattle.world_text.specs.declared.section.Section.TheVariants as section
use Rattle.world_text.specs.LineKinds.{Line}
use Rattle.world_text.specs.LineKinds as line
use Rattle.world_text.specs.Formats.{version_1}
use Rattle.world_text.specs.Lines.{IsLine, line_text}
use Rattle.world_text.specs.Sections.{order, is_between}
use Rattle.world_text.specs.Meaning.{settled_from}
use Rattle.world_text.specs.Fitting.{section_of, last_section, fits}
use Rattle.world_text.specs.Drafts.{Stands, TakesLine}
use Rattle.world_text.specs.Headers.{IsHeaderLine, HeaderSoFar, header_so_far, header_in, TakesHeaderLine, RefusesHeaderLine, KeepsOthers, IsHeaderDraft, RefusesHeaders}
use Rattle.world_text.proofs.LawfulLemmas.{version_1_is_format}
use Rattle.world_text.proofs.LineLemmas.{line_lacks}
use Rattle.world_text.proofs.MeaningLemmas.{order_later, order_last_section-append, no_tick_yet, no_slot_yet, no_next_yet, no_pool_yet}

-- such a draft stands for the lines that its header stands for, behind line 1
pub stands_behind : (draft : Draft) (before : List Line) → IsHeaderDraft draft → header_in draft ≡ header_so_far before → Stands draft (line.Version ∷ before)
stands_behind draft before is e =
    let lines = line.Version ∷ before in
    let here : draft.section ≡ last_section (line.Version ∷ before) = ap (λ (h : HeaderSoFar). h.last) e in
    let low : order (last_section (line.Version ∷ before)) ≤ 4 = subst (λ s. order s ≤ 4) here is.early in
    let no_slots = no_slot_yet lines (omega (arith, low)) in
    let no_nexts = no_next_yet lines (omega (arith, low)) in
    record {
      section = here;
      decls = ap (λ (h : HeaderSoFar). h.decls) e;
      groups = ap (λ (h : HeaderSoFar). h.groups) e;
      systems = ap (λ (h : HeaderSoFar). h.systems) e;
      tick = is.tick ∙ sym (ap (λ xs. get_or xs 0 0) (no_tick_yet lines (omega (arith, low))));
      slots = is.slots ∙ sym no_slots;
      free = is.free ∙ sym no_nexts;
      settled = is.settled ∙ sym (λ i. settled_from 0 (no_slots i) (no_nexts i));
      pools = is.pools ∙ sym (no_pool_yet draft.format.profile lines (omega (arith, low)));
    }

-- line 1 stands once
first_once : (before : List Line) → is_between section.Start section.Start (last_section (line.Version ∷ before)) ≡ true → ⊥
first_once before fit =
    let low : order (last_section (line.Version ∷ before)) ≤ 0 = leb-true (order (last_section (line.Version ∷ before))) 0 (and_parts (leb 0 (order (last_section (line.Version ∷ before)))) _ fit).1 in
    omega (arith, low, order_later section.Version (last_section before))

-- a line that goes no further than the systems is a header line
header_line : (format : Format) (before : List Line) (l : Line) → order (section_of l) ≤ 4 → fits format (line.Version ∷ before) l ≡ true → IsHeaderLine l
header_line format before line.Version early fit = absurd (first_once before fit)
header_line format before (line.Component decl) early fit = tt
header_line format before (line.Group named) early fit = tt
header_line format before (line.System name) early fit = tt
header_line format before (line.Body names body) early fit = tt
header_line format before (line.Tick tick) early fit = absurd (omega arith)
header_line format before (line.Slot slot) early fit = absurd (omega arith)
header_line format before (line.Next index) early fit = absurd (omega arith)
header_line format before (line.Pool name) early fit = absurd (omega arith)
header_line format before (line.Row entity values) early fit = absurd (omega arith)
header_line format before line.End early fit = absurd (omega arith)

-- a line that is read is added to the header
pub taken_header : (old new : Draft) (text after : List ℕ) → IsHeaderDraft old → KeepsOthers old new → Lacks 10 text → TakesLine old (text ++ 10 ∷ []) after new → TakesHeaderLine (header_in old) text (header_in new)
taken_header old new text after is keeps whole t =
    let l = t.line in
    let is_line : IsLine version_1 t.line = subst (λ (f : Format). IsLine f t.line) is.format t.is in
    let spelled : text ++ 10 ∷ [] ≡ line_text version_1 t.line ++ 10 ∷ after = subst (λ (f : Format). text ++ 10 ∷ [] ≡ line_text f t.line ++ 10 ∷ after) is.format t.spelled in
    record {
      line = l;
      is = is_line;
      spelled = (same_cut 10 text (line_text version_1 t.line) [] after whole (line_lacks version_1 t.line version_1_is_format is_line) spelled).0;
      taken = λ before e.
          let stands = stands_behind old before is e in
          let fit : fits version_1 (line.Version ∷ before) t.line ≡ true = subst (λ (f : Format). fits f (line.Version ∷ before) t.line ≡ true) is.format (t.taken.fit (line.Version ∷ before) stands) in
          let after_it = t.taken.stands (line.Version ∷ before) stands in
          let low : order (last_section ((line.Version ∷ before) ++ t.line ∷ [])) ≤ 4 = subst (λ s. order s ≤ 4) after_it.section (keeps.early is.early) in
          record {
            header = header_line version_1 before t.line (omega (arith, low, order_last_section-append (line.Version ∷ before) (t.line ∷ []), order_later (section_of t.line) section.Start)) fit;
            fit = fit;
            stands = λ i. record { decls = after_it.decls i; groups = after_it.groups i; systems = after_it.systems i; last = after_it.section i };
          };
    }

-- a line that isn't
pub refused_header : (draft : Draft) (text : List ℕ) → IsHeaderDraft draft → RefusesHeaders draft (text ++ 10 ∷ []) → RefusesHeaderLine (header_in draft) text
refused_header draft text is none l header is_line e before same =
    subst (λ (f : Format). fits f (line.Version ∷ before) l ≡ false) is.format
    (none l [] header (subst (λ (f : Format). IsLine f l) (sym is.format) is_line)
    (subst (λ (f : Format). text ++ 10 ∷ [] ≡ line_text f l ++ 10 ∷ []) (sym is.format) (ap (λ (t : List ℕ). t ++ 10 ∷ []) e))
    (line.Version ∷ before) (stands_behind draft before is same))

-- a text with a line end in it is no line
pub refused_cut : (header : HeaderSoFar) (text front back : List ℕ) → IsCut text 10 front back → RefusesHeaderLine header text
refused_cut header text front back cut l is_header is_line e before same =
    absurd (no_cut 10 front back (subst (Lacks 10) (sym e ∙ cut.whole) (line_lacks version_1 l version_1_is_format is_line)))
