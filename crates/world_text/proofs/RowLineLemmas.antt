-- What the text of a row line says.
use Rattle.std.proofs.Common.{◌≡◌, ℕ, ◌-◌, ◌≤◌, Bool, true, false, List, ◌∷◌, ◌++◌, length, drop, get_or, slice_get, Option, Some, codes, if◌then◌else◌, refl, sym, ap, subst, ◌∙◌, inl, arith, append_assoc}
use Rattle.std.specs.List.{flat_map}
use Rattle.std.specs.Option.{option_map_or}
use Rattle.std.specs.Fmt.{decimal}
use Rattle.entity_id.specs.declared.entity.Entity.{Entity}
use Rattle.entity_id.specs.Identifiers.{HasLimits}
use Rattle.entity_id.specs.Texts.{entity_text, IsEntityFirst}
use Rattle.entity_id.proofs.FrontLemmas.{same_entity}
use Rattle.world_model.specs.declared.component.Decl.{Decl}
use Rattle.world_model.specs.declared.component.Kind.{Kind}
use Rattle.world_model.specs.declared.component.Row.{Row}
use Rattle.world_model.specs.Components.{kinds_of}
use Rattle.world_model.specs.Slots.{is_live}
use Rattle.world_text.specs.declared.format.Format.{Format}
use Rattle.world_text.specs.declared.draft.Draft.{Draft}
use Rattle.world_text.specs.declared.section.Section.TheVariants as section
use Rattle.world_text.specs.FieldValues.{FieldValue}
use Rattle.world_text.specs.LineKinds.{Line}
use Rattle.world_text.specs.LineKinds as line
use Rattle.world_text.specs.Lines.{IsLine, IsRowLine, line_text, values_text}
use Rattle.world_text.specs.Sections.{is_between}
use Rattle.world_text.specs.Meaning.{slot_in, pools_in}
use Rattle.world_text.specs.Fitting.{is_above, are_of_kinds, last_section}
use Rattle.world_text.specs.Reading.{AreValuesOf, IsRowOf}
use Rattle.world_text.specs.Drafts.{are_of_last_kinds, Refuses, RefusesRow, RefusesOthers, IsNoBody, TakesRow, TakesLine}
use Rattle.world_text.proofs.AddingLemmas.{and_false_right}
use Rattle.world_text.proofs.TakingLemmas.{ends_on, of_kinds, same_length}

-- ---- the text

-- a text that spells a row line: its identifier, and its values up to the end of the line
pub record IsRowText (format : Format) (text : List ℕ) (l : Line) (more : List ℕ) : Type 0 where
  pub entity : Entity
  pub values : List FieldValue
  pub is_row : l ≡ line.Row entity values
  pub is : IsRowLine format entity values
  pub whole : text ≡ entity_text format.profile entity ++ (values_text format.profile values ++ 10 ∷ more)

no_slot : (live : Bool) (text version more : List ℕ) → codes "row " ++ text ≡ ((if live then codes "live " else codes "free ") ++ version) ++ 10 ∷ more → ⊥
no_slot true text version more e = omega (arith, ap (λ (t : List ℕ). get_or t 0 0) e)
no_slot false text version more e = omega (arith, ap (λ (t : List ℕ). get_or t 0 0) e)

-- a text behind the word of a row line that spells a line spells a row line
pub row_text : (format : Format) (text more : List ℕ) (l : Line) → IsNoBody l → IsLine format l → codes "row " ++ text ≡ line_text format l ++ 10 ∷ more → IsRowText format text l more
row_text format text more line.Version no_body is e = absurd (omega (arith, ap (λ (t : List ℕ). get_or t 0 0) e))
row_text format text more (line.Component decl) no_body is e = absurd (omega (arith, ap (λ (t : List ℕ). get_or t 0 0) e))
row_text format text more (line.Group named) no_body is e = absurd (omega (arith, ap (λ (t : List ℕ). get_or t 0 0) e))
row_text format text more (line.System name) no_body is e = absurd (omega (arith, ap (λ (t : List ℕ). get_or t 0 0) e))
row_text format text more (line.Body names body) no_body is e = absurd no_body
row_text format text more (line.Tick tick) no_body is e = absurd (omega (arith, ap (λ (t : List ℕ). get_or t 0 0) e))
row_text format text more (line.Slot slot) no_body is e = absurd (no_slot slot.live text (decimal slot.version) more e)
row_text format text more (line.Next index) no_body is e = absurd (omega (arith, ap (λ (t : List ℕ). get_or t 0 0) e))
row_text format text more (line.Pool name) no_body is e = absurd (omega (arith, ap (λ (t : List ℕ). get_or t 0 0) e))
row_text format text more (line.Row entity values) no_body is e = record {
  entity = entity;
  values = values;
  is_row = refl;
  is = is;
  whole = ap (drop 4) e ∙ append_assoc (entity_text format.profile entity) (values_text format.profile values) (10 ∷ more);
}
row_text format text more line.End no_body is e = absurd (omega (arith, ap (λ (t : List ℕ). get_or t 0 0) e))

-- it begins with the line's identifier
entity_first : (format : Format) (text : List ℕ) (l : Line) (more : List ℕ) (h : IsRowText format text l more) → IsEntityFirst format.profile text h.entity (values_text format.profile h.values ++ 10 ∷ more)
entity_first format text l more h = record { of_profile = h.is.of_profile; whole = h.whole; ended = ends_on format.profile h.values (10 ∷ more) (inl (omega arith)) }

-- and with no other
one_entity : (format : Format) (text : List ℕ) (l : Line) (more : List ℕ) (entity : Entity) (rest : List ℕ) (h : IsRowText format text l more) → HasLimits format.profile → IsEntityFirst format.profile text entity rest → (entity ≡ h.entity) × (rest ≡ values_text format.profile h.values ++ 10 ∷ more)
one_entity format text l more entity rest h limits first =
    let its = entity_first format text l more h in
    same_entity format.profile entity h.entity rest (values_text format.profile h.values ++ 10 ∷ more) limits first.of_profile its.of_profile first.ended its.ended (sym first.whole ∙ its.whole)

-- ---- where no row goes on the last pool

not_true_is_false : (b : Bool) → (b ≡ true → ⊥) → b ≡ false
not_true_is_false true none = absurd (none refl)
not_true_is_false false none = refl

-- values of other kinds than the last pool's don't fit
refuses_kinds : (draft : Draft) (entity : Entity) (values : List FieldValue) → are_of_last_kinds draft values ≡ false → Refuses draft (line.Row entity values)
refuses_kinds draft entity values other before s =
    let profile = draft.format.profile in
    and_false_right (is_between section.Pools section.Pools (last_section before)) _
    (and_false_right (is_live (flat_map slot_in before) entity) _
    (and_false_right (option_map_or (λ rows. is_above rows entity) (slice_get (pools_in profile before) (length (pools_in profile before) - 1)) false) _
    ((λ i. option_map_or (λ decl. are_of_kinds (kinds_of decl) values) (slice_get (sym s.decls i) (length (sym s.pools i) - 1)) false) ∙ other)))

-- the kinds of the last pool, where they are there
last_kinds : (draft : Draft) (kinds : List Kind) (decl : Decl) (values : List FieldValue) → slice_get draft.decls.items (length draft.pools.items - 1) ≡ Some decl → kinds ≡ kinds_of decl → are_of_last_kinds draft values ≡ are_of_kinds kinds values
last_kinds draft kinds decl values found e =
    ap (λ (o : Option Decl). option_map_or (λ d. are_of_kinds (kinds_of d) values) o false) found
    ∙ ap (λ (ks : List Kind). are_of_kinds ks values) (sym e)

-- ---- reading the line

-- a line that is read whole, and its row added
pub takes_line : (old new : Draft) (text rest after : List ℕ) (entity : Entity) (row : Row) (kinds : List Kind) (decl : Decl) → IsEntityFirst old.format.profile text entity rest → slice_get old.decls.items (length old.pools.items - 1) ≡ Some decl → kinds ≡ kinds_of decl → length kinds ≤ 4 → IsRowOf old.format.profile kinds rest row after → TakesRow old entity row new → TakesLine old (codes "row " ++ text) after new
takes_line old new text rest after entity row kinds decl first found is_kinds few of taken =
    let profile = old.format.profile in
    let spelled = of.spelled in
    let count = same_length kinds of.values (of_kinds kinds of.values spelled.of_kinds) in
    record {
      line = line.Row entity of.values;
      is = record { of_profile = first.of_profile; few = omega (arith, count); each = spelled.each };
      spelled = ap (λ (x : List ℕ). codes "row " ++ x) (first.whole ∙ ap (λ (x : List ℕ). entity_text profile entity ++ x) spelled.whole ∙ sym (append_assoc (entity_text profile entity) (values_text profile of.values) (10 ∷ after)));
      taken = taken of.values of.held (last_kinds old kinds decl of.values found is_kinds ∙ spelled.of_kinds);
    }

-- a text that begins with no identifier
pub no_entity : (draft : Draft) (text : List ℕ) → ((entity : Entity) (rest : List ℕ) → IsEntityFirst draft.format.profile text entity rest → ⊥) → RefusesOthers draft (codes "row " ++ text)
no_entity draft text none l more no_body is e =
    let h = row_text draft.format text more l no_body is e in
    absurd (none h.entity (values_text draft.format.profile h.values ++ 10 ∷ more) (entity_first draft.format text l more h))

-- a text whose identifier no values of the pool's kinds follow
pub no_values : (draft : Draft) (text rest : List ℕ) (entity : Entity) (kinds : List Kind) (decl : Decl) → HasLimits draft.format.profile → IsEntityFirst draft.format.profile text entity rest → slice_get draft.decls.items (length draft.pools.items - 1) ≡ Some decl → kinds ≡ kinds_of decl → ((values : List FieldValue) (more : List ℕ) → AreValuesOf draft.format.profile kinds rest values more → ⊥) → RefusesOthers draft (codes "row " ++ text)
no_values draft text rest entity kinds decl limits first found is_kinds none l more no_body is e =
    let h = row_text draft.format text more l no_body is e in
    let one = one_entity draft.format text l more entity rest h limits first in
    let kept = last_kinds draft kinds decl h.values found is_kinds in
    subst (λ (m : Line). Refuses draft m) (sym h.is_row)
    (refuses_kinds draft h.entity h.values (kept ∙ not_true_is_false (are_of_kinds kinds h.values) (λ yes. none h.values more (record { of_kinds = yes; each = h.is.each; whole = one.1 }))))

-- a text whose identifier may not stand on the last pool
pub no_place : (draft : Draft) (text rest : List ℕ) (entity : Entity) → HasLimits draft.format.profile → IsEntityFirst draft.format.profile text entity rest → RefusesRow draft entity → RefusesOthers draft (codes "row " ++ text)
no_place draft text rest entity limits first refused l more no_body is e =
    let h = row_text draft.format text more l no_body is e in
    let one = one_entity draft.format text l more entity rest h limits first in
    subst (λ (m : Line). Refuses draft m) (ap (λ (x : Entity). line.Row x h.values) one.0 ∙ sym h.is_row) (refused h.values)
