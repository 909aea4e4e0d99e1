-- A line has no line end in it, and one text spells at most one line.
use Rattle.std.proofs.Common.{◌≡◌, ℕ, ◌^◌, ◌<◌, Bool, true, false, List, ◌++◌, drop, get_or, codes, if◌then◌else◌, refl, sym, ap, subst, ◌∙◌, arith, inl, inr}
use Rattle.std.specs.Fmt.{decimal}
use Rattle.std.proofs.lemmas.Fmt.{decimal_injective}
use Rattle.entity_id.specs.declared.entity.Entity.{Entity}
use Rattle.entity_id.specs.Identifiers.{HasLimits}
use Rattle.entity_id.specs.Texts.{entity_text}
use Rattle.entity_id.specs.Cuts.{Lacks}
use Rattle.entity_id.proofs.CutLemmas.{lacks_append, lacks_by_test}
use Rattle.entity_id.proofs.TextLemmas.{decimal_lacks, entity_text_lacks, entity_text_injective}
use Rattle.world_model.specs.declared.slot.Slot.{Slot}
use Rattle.world_model.specs.Components.{kinds_of}
use Rattle.world_text.specs.declared.format.Format.{Format}
use Rattle.world_text.specs.FieldValues.{FieldValue}
use Rattle.world_text.specs.LineKinds.{Line}
use Rattle.world_text.specs.LineKinds as line
use Rattle.world_text.specs.Formats.{IsFormat}
use Rattle.world_text.specs.Lines.{IsLine, IsRowLine, IsSystemLine, line_text, lists_text, values_text}
use Rattle.world_text.proofs.FormatLemmas.{format_limits, format_slots}
use Rattle.world_text.proofs.WordLemmas.{lacks_behind, same_split, name_lacks, kinds_free, same_decl}
use Rattle.world_text.proofs.GroupTextLemmas.{group_lacks, same_group_text}
use Rattle.world_text.proofs.ValueLemmas.{values_spaced, values_lack, same_values}
use Rattle.std.specs.Prelude.{Option, Some, None}
use Rattle.std.specs.Option.{option_map_or}
use Rattle.std.specs.List.{flat_map}
use Rattle.std.proofs.lemmas.Bool.{and_parts}
use Rattle.row_lang.specs.BodyLines.{BodyLine}
use Rattle.row_lang.specs.Naming.{AreNamedDecls, names_of}
use Rattle.row_lang.specs.Spelling.{IsBodyLine, body_line_text}
use Rattle.row_lang.specs.Systems.{Draft, admits}
use Rattle.row_lang.proofs.OneLineLemmas.{one_line}
use Rattle.world_text.proofs.BodyTextLemmas.{body_lacks}
use Rattle.world_model.specs.declared.component.Decl.{Decl}
use Rattle.world_text.specs.declared.section.Section.{Section}
use Rattle.world_text.specs.declared.section.Section.TheVariants as section
use Rattle.world_text.specs.Sections.{is_between}
use Rattle.world_text.specs.Meaning.{decl_in}
use Rattle.world_text.specs.SystemLines.{systems_in}
use Rattle.world_text.specs.Fitting.{last_section, are_names_of, goes_on_system, fits}
use Rattle.world_text.specs.Drafts.{IsNoBody}
use Rattle.world_text.proofs.SystemLemmas.{names_are}
use Rattle.world_text.proofs.Tags.{tag, body_tag, body_tags, same_tag}

-- ---- no line end (10)

free_number : (n : ℕ) → n < 2 ^ 64 → Lacks 10 (decimal n)
free_number n small = decimal_lacks 10 n small (inl (omega arith))

free_slot : (live : Bool) (n : ℕ) → n < 2 ^ 64 → Lacks 10 ((if live then codes "live " else codes "free ") ++ decimal n)
free_slot true n small = lacks_behind 10 (codes "live ") _ refl (free_number n small)
free_slot false n small = lacks_behind 10 (codes "free ") _ refl (free_number n small)

free_row : (format : Format) (entity : Entity) (values : List FieldValue) → HasLimits format.profile → IsRowLine format entity values → Lacks 10 (entity_text format.profile entity ++ values_text format.profile values)
free_row format entity values limits is =
    lacks_append 10 (entity_text format.profile entity) _ (entity_text_lacks format.profile entity 10 limits is.of_profile (omega arith)) (values_lack format.profile values limits is.each)

line_lacks_by_limits : (format : Format) (l : Line) → format.version < 2 ^ 64 → format.slot_limit < 2 ^ 32 → HasLimits format.profile → IsLine format l → Lacks 10 (line_text format l)
line_lacks_by_limits format line.Version wide few limits is = lacks_behind 10 (codes "world ") _ refl (free_number format.version wide)
line_lacks_by_limits format (line.Component decl) wide few limits is = lacks_behind 10 (codes "component ") _ refl (lacks_append 10 decl.name _ (name_lacks 10 refl decl.name is.name) (kinds_free (kinds_of decl)))
line_lacks_by_limits format (line.Group named) wide few limits is = lacks_behind 10 (codes "group") (lists_text named) refl (group_lacks named is)
line_lacks_by_limits format (line.System name) wide few limits is = lacks_behind 10 (codes "system ") _ refl (name_lacks 10 refl name is)
line_lacks_by_limits format (line.Body names body) wide few limits is = body_lacks names body is.named
line_lacks_by_limits format (line.Tick tick) wide few limits is = lacks_behind 10 (codes "tick ") _ refl (free_number tick (omega arith))
line_lacks_by_limits format (line.Slot slot) wide few limits is = free_slot slot.live slot.version (omega arith)
line_lacks_by_limits format (line.Next index) wide few limits is = lacks_behind 10 (codes "next ") _ refl (free_number index (omega arith))
line_lacks_by_limits format (line.Pool name) wide few limits is = lacks_behind 10 (codes "pool ") _ refl (name_lacks 10 refl name is)
line_lacks_by_limits format (line.Row entity values) wide few limits is = lacks_behind 10 (codes "row ") _ refl (free_row format entity values limits is)
line_lacks_by_limits format line.End wide few limits is = lacks_by_test 10 (codes "end") refl

-- no line has a line end in it
pub line_lacks : (format : Format) (l : Line) → IsFormat format → IsLine format l → Lacks 10 (line_text format l)
line_lacks format l of_format is =
    let limits = format_limits format of_format in
    line_lacks_by_limits format l of_format.number (format_slots format of_format) limits is

-- ---- one text, one line

same_slot : (a b : Bool) (m n : ℕ) → m < 2 ^ 64 → n < 2 ^ 64 → (if a then codes "live " else codes "free ") ++ decimal m ≡ (if b then codes "live " else codes "free ") ++ decimal n → ◌≡◌ {A = Slot} (record { version = m; live = a }) (record { version = n; live = b })
same_slot true true m n p q e = λ i. record { version = decimal_injective m n p q (ap (drop 5) e) i; live = true }
same_slot false false m n p q e = λ i. record { version = decimal_injective m n p q (ap (drop 5) e) i; live = false }
same_slot true false m n p q e = absurd (omega (arith, ap (λ (t : List ℕ). get_or t 0 0) e))
same_slot false true m n p q e = absurd (omega (arith, ap (λ (t : List ℕ). get_or t 0 0) e))

same_row : (format : Format) (a b : Entity) (xs ys : List FieldValue) → HasLimits format.profile → IsRowLine format a xs → IsRowLine format b ys → entity_text format.profile a ++ values_text format.profile xs ≡ entity_text format.profile b ++ values_text format.profile ys → line.Row a xs ≡ line.Row b ys
same_row format a b xs ys limits p q e =
    let parts = same_split _ _ _ _ (entity_text_lacks format.profile a 32 limits p.of_profile (omega arith)) (entity_text_lacks format.profile b 32 limits q.of_profile (omega arith)) (values_spaced format.profile xs) (values_spaced format.profile ys) e in
    let entity = entity_text_injective format.profile a b limits p.of_profile q.of_profile parts.0 in
    let values = same_values format.profile xs ys limits p.each q.each parts.1 in
    λ i. line.Row (entity i) (values i)

-- two lines of a system of one text, where both go on the same draft under the same components
same_body : (decls : List Decl) (draft : Draft) (m n : List (List ℕ)) (a b : BodyLine) → AreNamedDecls decls → m ≡ names_of decls → n ≡ names_of decls → IsBodyLine m a → IsBodyLine n b → admits decls draft a ≡ true → admits decls draft b ≡ true → body_line_text m a ≡ body_line_text n b → line.Body m a ≡ line.Body n b
same_body decls draft m n a b named m_is n_is p q fit_a fit_b e =
    let is_a : IsBodyLine (names_of decls) a = subst (λ (names : List (List ℕ)). IsBodyLine names a) m_is p in
    let is_b : IsBodyLine (names_of decls) b = subst (λ (names : List (List ℕ)). IsBodyLine names b) n_is q in
    let texts : body_line_text (names_of decls) a ≡ body_line_text (names_of decls) b = ap (λ (names : List (List ℕ)). body_line_text names a) (sym m_is) ∙ e ∙ ap (λ (names : List (List ℕ)). body_line_text names b) n_is in
    let same : a ≡ b = one_line decls draft a b named is_a is_b fit_a fit_b texts in
    λ i. line.Body ((m_is ∙ sym n_is) i) (same i)

-- what a test says of an unfinished system, it says of one that stands there
admitted : (decls : List Decl) (unfinished : Option Draft) (a b : BodyLine) → option_map_or (λ draft. admits decls draft a) unfinished false ≡ true → option_map_or (λ draft. admits decls draft b) unfinished false ≡ true → (draft : Draft) × (admits decls draft a ≡ true) × (admits decls draft b ≡ true)
admitted decls None a b p q = absurd cc
admitted decls (Some draft) a b p q = (draft, p, q)

-- where two lines of a system fit
same_body_line : (format : Format) (before : List Line) (m n : List (List ℕ)) (a b : BodyLine) → AreNamedDecls (flat_map decl_in before) → IsSystemLine m a → IsSystemLine n b → fits format before (line.Body m a) ≡ true → fits format before (line.Body n b) ≡ true → body_line_text m a ≡ body_line_text n b → line.Body m a ≡ line.Body n b
same_body_line format before m n a b named p q fit_a fit_b e =
    let decls = flat_map decl_in before in
    let tests_a = and_parts (are_names_of (flat_map decl_in before) m) (goes_on_system (flat_map decl_in before) (systems_in before) a) (and_parts _ _ fit_a).1 in
    let tests_b = and_parts (are_names_of (flat_map decl_in before) n) (goes_on_system (flat_map decl_in before) (systems_in before) b) (and_parts _ _ fit_b).1 in
    let both = admitted decls (systems_in before).unfinished a b (and_parts _ _ tests_a.1).0 (and_parts _ _ tests_b.1).0 in
    same_body decls both.0 m n a b named (names_are decls m tests_a.0) (names_are decls n tests_b.0) p.is q.is both.1 both.2 e

-- the last line of a system fits in no place where that of a document does
no_both_ends : (s : Section) → is_between section.Systems section.Systems s ≡ true → is_between section.Tick section.Pools s ≡ true → ⊥
no_both_ends section.Systems p q = cc
no_both_ends section.Start p q = cc
no_both_ends _ p q = cc

no_end_here : (format : Format) (before : List Line) (names : List (List ℕ)) (body : BodyLine) → fits format before (line.Body names body) ≡ true → fits format before line.End ≡ true → ⊥
no_end_here format before names body p q = no_both_ends (last_section before) (and_parts _ _ p).0 (and_parts _ _ q).0

same_of_kind : (format : Format) (a b : Line) → format.slot_limit < 2 ^ 32 → HasLimits format.profile → IsNoBody a → IsNoBody b → IsLine format a → IsLine format b → tag a ≡ tag b → line_text format a ≡ line_text format b → a ≡ b
same_of_kind format line.Version line.Version few limits no_a no_b p q kind e = refl
same_of_kind format (line.Component a) (line.Component b) few limits no_a no_b p q kind e = ap line.Component (same_decl a b p q (ap (drop 10) e))
same_of_kind format (line.Group a) (line.Group b) few limits no_a no_b p q kind e = ap line.Group (same_group_text a b p q (ap (drop 5) e))
same_of_kind format (line.System a) (line.System b) few limits no_a no_b p q kind e = ap line.System (ap (drop 7) e)
same_of_kind format (line.Body m a) b few limits no_a no_b p q kind e = absurd no_a
same_of_kind format a (line.Body n b) few limits no_a no_b p q kind e = absurd no_b
same_of_kind format (line.Tick a) (line.Tick b) few limits no_a no_b p q kind e = ap line.Tick (decimal_injective a b (omega arith) (omega arith) (ap (drop 5) e))
same_of_kind format (line.Slot a) (line.Slot b) few limits no_a no_b p q kind e = ap line.Slot (same_slot a.live b.live a.version b.version (omega arith) (omega arith) e)
same_of_kind format (line.Next a) (line.Next b) few limits no_a no_b p q kind e = ap line.Next (decimal_injective a b (omega arith) (omega arith) (ap (drop 5) e))
same_of_kind format (line.Pool a) (line.Pool b) few limits no_a no_b p q kind e = ap line.Pool (ap (drop 5) e)
same_of_kind format (line.Row a xs) (line.Row b ys) few limits no_a no_b p q kind e = same_row format a b xs ys limits p q (ap (drop 4) e)
same_of_kind format line.End line.End few limits no_a no_b p q kind e = refl
same_of_kind format a b few limits no_a no_b p q kind e = absurd (omega arith)

-- one text spells at most one line that isn't one of a system
pub same_line_text : (format : Format) (a b : Line) → IsFormat format → IsNoBody a → IsNoBody b → IsLine format a → IsLine format b → line_text format a ≡ line_text format b → a ≡ b
same_line_text format a b of_format no_a no_b p q e =
    let limits = format_limits format of_format in
    same_of_kind format a b (format_slots format of_format) limits no_a no_b p q (same_tag format a b e) e

-- a line of a system and another have different texts, but for the last lines
body_alone : (format : Format) (before : List Line) (names : List (List ℕ)) (body : BodyLine) (l : Line) → IsNoBody l → fits format before (line.Body names body) ≡ true → fits format before l ≡ true → body_tag body ≡ tag l → ⊥
body_alone format before names body (line.Body others other) plain fit_a fit_b kind = plain
body_alone format before names body line.End plain fit_a fit_b kind = no_end_here format before names body fit_a fit_b
body_alone format before names body l plain fit_a fit_b kind = elim (body_tags body) as (λ _. ⊥) [ inl h ↦ omega (arith, h, kind) | inr h ↦ omega (arith, h, kind) ]

-- of the lines that fit behind others, one text spells at most one
module _ (format : Format) (before : List Line) (of_format : IsFormat format) (named : AreNamedDecls (flat_map decl_in before)) where
  pub same_fitting_line : (a b : Line) → IsLine format a → IsLine format b → fits format before a ≡ true → fits format before b ≡ true → line_text format a ≡ line_text format b → a ≡ b
  same_fitting_line (line.Body m a) (line.Body n b) p q fit_a fit_b e = same_body_line format before m n a b named p q fit_a fit_b e
  same_fitting_line (line.Body m a) b p q fit_a fit_b e = absurd (body_alone format before m a b tt fit_a fit_b (same_tag format (line.Body m a) b e))
  same_fitting_line a (line.Body n b) p q fit_a fit_b e = absurd (body_alone format before n b a tt fit_b fit_a (sym (same_tag format a (line.Body n b) e)))
  same_fitting_line a b p q fit_a fit_b e = same_line_text format a b of_format tt tt p q e
