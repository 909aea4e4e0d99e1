-- A text is one document with one script at most, and has one bad line at most.
use Rattle.std.proofs.Common.{◌≡◌, inl, inr, ℕ, ◌+◌, true, List, [], ◌∷◌, ◌++◌, length, drop, codes, refl, sym, ap, ap₂, subst, ◌∙◌, arith, append_assoc}
use Rattle.std.specs.List.{AllByRecursion, AllZip, flat_map}
use Rattle.std.proofs.lemmas.Bool.{both_ways}
use Rattle.std.proofs.lemmas.List.{append-nil, append_cancel_left}
use Rattle.std.proofs.lemmas.Option.{none-some}
use Rattle.entity_id.specs.declared.entity.Profile.{Profile}
use Rattle.entity_id.specs.Identifiers.{HasLimits}
use Rattle.world_model.specs.declared.component.Decl.{Decl}
use Rattle.world_text.specs.declared.document.Document.{Document}
use Rattle.world_text.specs.declared.format.Format.{Format}
use Rattle.world_text.specs.declared.section.Section.TheVariants as section
use Rattle.world_text.specs.declared.script.ScriptLine.{ScriptLine}
use Rattle.world_text.specs.LineKinds.{Line}
use Rattle.world_text.specs.Formats.{IsFormat, version_1}
use Rattle.world_text.specs.Lines.{text_of}
use Rattle.world_text.specs.Meaning.{world_of}
use Rattle.world_text.specs.SystemLines.{systems_in}
use Rattle.world_text.specs.Fitting.{fits, fit_after, last_section}
use Rattle.world_text.specs.Documents.{IsFrontOf, IsBadFrontOf}
use Rattle.world_text.specs.Scripts.{IsScriptLine, IsLineWrittenAs, IsLineFirst, IsScript, IsBegun, IsBadScriptLine, IsScripted, IsBadBehind, IsBadScriptedLine, first_line, last_line, script_line_text}
use Rattle.world_text.specs.Verbs.{word_of}
use Rattle.world_text.proofs.LawfulLemmas.{front_is_lawful, version_1_is_format}
use Rattle.row_lang.proofs.NameLemmas.{same_name_split}
use Rattle.world_text.proofs.OneLineLemmas.{AreDecls, one_line}
use Rattle.world_text.proofs.ReadingLemmas.{fits_nowhere}
use Rattle.world_text.proofs.SplitLineLemmas.{split_line, word_free, verb_in, said}
use Rattle.world_text.proofs.UniqueLemmas.{one_goes_on, fits_next, not_past, one_number}

-- ---- one document at the front

-- lines that have reached the end don't go on
not_on : (format : Format) (a c b : List Line) → IsFormat format → b ≡ a ++ c → last_section a ≡ section.End → fit_after format [] b ≡ true → c ≡ []
not_on format a [] b is_format e ended fit = refl
not_on format a (l ∷ c) b is_format e ended fit =
    absurd (both_ways (fits format a l) (fits_nowhere format a l ended) (fits_next format is_format [] a c l (subst (λ (ls : List Line). fit_after format [] ls ≡ true) e fit)))

same_front : (format : Format) (bytes : List ℕ) (d e : Document) (m n : ℕ) (x y : List ℕ) (p : IsFrontOf format bytes d m x) (q : IsFrontOf format bytes e n y) → p.lines ≡ q.lines → x ≡ y → (d ≡ e) × (m ≡ n) × (x ≡ y)
same_front format bytes d e m n x y p q lines rests =
    let worlds = p.world_is ∙ ap (world_of format) lines ∙ sym q.world_is in
    let systems = p.systems_are ∙ ap (λ (ls : List Line). (systems_in ls).closed) lines ∙ sym q.systems_are in
    ((λ i. record { world = worlds i; systems = systems i }), p.counted ∙ ap length lines ∙ sym q.counted, rests)

pub one_front : (format : Format) (bytes : List ℕ) (d e : Document) (m n : ℕ) (x y : List ℕ) → IsFormat format → IsFrontOf format bytes d m x → IsFrontOf format bytes e n y → (d ≡ e) × (m ≡ n) × (x ≡ y)
one_front format bytes d e m n x y is_format p q =
    elim (one_goes_on format is_format p.lines q.lines x y p.admissible q.admissible (sym p.spelled ∙ q.spelled)) as (λ _. (d ≡ e) × (m ≡ n) × (x ≡ y)) [
      | inl h ↦
          let none = not_on format p.lines h.0 q.lines is_format h.1 p.ended q.admissible.fit in
          same_front format bytes d e m n x y p q (sym (h.1 ∙ ap (λ (c : List Line). p.lines ++ c) none ∙ append-nil p.lines)) (h.2 ∙ ap (λ (c : List Line). text_of format c ++ y) none)
      | inr h ↦
          let none = not_on format q.lines h.0 p.lines is_format h.1 q.ended p.admissible.fit in
          same_front format bytes d e m n x y p q (h.1 ∙ ap (λ (c : List Line). q.lines ++ c) none ∙ append-nil q.lines) (sym (h.2 ∙ ap (λ (c : List Line). text_of format c ++ x) none))
    ]

pub no_bad_front : (format : Format) (bytes : List ℕ) (d : Document) (m number : ℕ) (x : List ℕ) → IsFormat format → IsFrontOf format bytes d m x → IsBadFrontOf format bytes number → ⊥
no_bad_front format bytes d m number x is_format p q =
    let bad = q.bad in
    elim (one_goes_on format is_format bad.lines p.lines bad.rest x bad.admissible p.admissible (sym bad.spelled ∙ p.spelled)) as (λ _. ⊥) [
      | inl h ↦
          let none = not_past format is_format bytes number bad p.lines h.0 x h.1 h.2 p.admissible.each p.admissible.fit in
          q.unfinished (sym (ap last_section (h.1 ∙ ap (λ (c : List Line). bad.lines ++ c) none ∙ append-nil bad.lines)) ∙ p.ended)
      | inr h ↦
          let none = not_on format p.lines h.0 bad.lines is_format h.1 p.ended bad.admissible.fit in
          q.unfinished (ap last_section (h.1 ∙ ap (λ (c : List Line). p.lines ++ c) none ∙ append-nil p.lines) ∙ p.ended)
    ]

-- ---- one script behind it

-- lines of a script one after another at the front of a text
abbrev AreLinesNext : Profile → List Decl → List ℕ → List ScriptLine → List ℕ → Type 0
AreLinesNext profile decls text [] rest = text ≡ rest
AreLinesNext profile decls text (line ∷ lines) rest = (behind : List ℕ) × IsLineFirst profile decls text line behind × AreLinesNext profile decls behind lines rest

-- a text begins with no line of a script
abbrev HasNoLine : Profile → List Decl → List ℕ → Type 0
HasNoLine profile decls text = (line : ScriptLine) (rest : List ℕ) → IsLineFirst profile decls text line rest → ⊥

-- lines up to where none stands are told apart by the text
one_stuck : (profile : Profile) (decls : List Decl) (text : List ℕ) (a b : List ScriptLine) (x y : List ℕ) → HasLimits profile → AreDecls decls → AreLinesNext profile decls text a x → AreLinesNext profile decls text b y → HasNoLine profile decls x → HasNoLine profile decls y → (a ≡ b) × (x ≡ y)
one_stuck profile decls text [] [] x y limits each p q no_x no_y = (refl, sym p ∙ q)
one_stuck profile decls text [] (m ∷ b) x y limits each p q no_x no_y = absurd (no_x m q.0 (subst (λ (t : List ℕ). IsLineFirst profile decls t m q.0) p q.1))
one_stuck profile decls text (l ∷ a) [] x y limits each p q no_x no_y = absurd (no_y l p.0 (subst (λ (t : List ℕ). IsLineFirst profile decls t l p.0) q p.1))
one_stuck profile decls text (l ∷ a) (m ∷ b) x y limits each p q no_x no_y =
    let same = one_line profile decls text p.0 q.0 l m limits p.1 q.1 in
    let h = one_stuck profile decls p.0 a b x y limits each p.2 (subst (λ (t : List ℕ). AreLinesNext profile decls t b y) (sym same.0) q.2) no_x no_y in
    (ap₂ (λ k ks. k ∷ ks) (same.1 each) h.0, h.1)

-- the last line is none of these
end_has_none : (profile : Profile) (decls : List Decl) (more : List ℕ) → HasNoLine profile decls (last_line ++ more)
end_has_none profile decls more line rest h =
    let s = split_line profile decls (last_line ++ more) line rest h in
    let same = same_name_split (codes "end") (word_of s.v) (10 ∷ more) s.behind (refl, (refl, (refl, tt))) (word_free s.v) refl s.ended s.whole in
    none-some s.v (ap verb_in same.0 ∙ said s.v)

lines_next : (profile : Profile) (decls : List Decl) (lines written : List ScriptLine) (text rest : List ℕ) → AllByRecursion (IsScriptLine profile decls) lines → AllZip IsLineWrittenAs lines written → text ≡ flat_map (script_line_text profile decls) written ++ rest → AreLinesNext profile decls text lines rest
lines_next profile decls [] [] text rest each same e = e
lines_next profile decls [] (w ∷ written) text rest each same e = absurd same
lines_next profile decls (line ∷ lines) [] text rest each same e = absurd same
lines_next profile decls (line ∷ lines) (w ∷ written) text rest each same e =
    let behind = flat_map (script_line_text profile decls) written ++ rest in
    (behind, record { is = each.0; written = w; same = same.0; spelled = e ∙ append_assoc (script_line_text profile decls w) (flat_map (script_line_text profile decls) written) rest }, lines_next profile decls lines written behind rest each.1 same.1 refl)

-- a script's beginning, behind its first line
begun_next : (profile : Profile) (decls : List Decl) (text : List ℕ) (lines : List ScriptLine) (rest : List ℕ) → (h : IsBegun profile decls text lines rest) → AreLinesNext profile decls (drop 7 text) lines rest
begun_next profile decls text lines rest h = lines_next profile decls lines h.written (drop 7 text) rest h.each h.same (ap (drop 7) h.spelled)

begun_first : (profile : Profile) (decls : List Decl) (text : List ℕ) (lines : List ScriptLine) (rest : List ℕ) → IsBegun profile decls text lines rest → (more : List ℕ) × (text ≡ first_line ++ more)
begun_first profile decls text lines rest h = (flat_map (script_line_text profile decls) h.written ++ rest, h.spelled ∙ append_assoc first_line (flat_map (script_line_text profile decls) h.written) rest)

begun_of : (profile : Profile) (decls : List Decl) (text : List ℕ) (lines : List ScriptLine) → IsScript profile decls text lines → IsBegun profile decls text lines last_line
begun_of profile decls text lines h = record { each = h.each; written = h.written; same = h.same; spelled = h.spelled }

one_begun : (profile : Profile) (decls : List Decl) (text : List ℕ) (a b : List ScriptLine) (x y : List ℕ) → HasLimits profile → AreDecls decls → IsBegun profile decls text a x → IsBegun profile decls text b y → HasNoLine profile decls x → HasNoLine profile decls y → (a ≡ b) × (x ≡ y)
one_begun profile decls text a b x y limits each p q no_x no_y =
    one_stuck profile decls (drop 7 text) a b x y limits each (begun_next profile decls text a x p) (begun_next profile decls text b y q) no_x no_y

one_lines : (profile : Profile) (decls : List Decl) (text : List ℕ) (a b : List ScriptLine) → HasLimits profile → AreDecls decls → IsScript profile decls text a → IsScript profile decls text b → a ≡ b
one_lines profile decls text a b limits each p q =
    (one_begun profile decls text a b last_line last_line limits each (begun_of profile decls text a p) (begun_of profile decls text b q) (end_has_none profile decls []) (end_has_none profile decls [])).0

no_bad_script_line : (profile : Profile) (decls : List Decl) (text : List ℕ) (lines : List ScriptLine) (number : ℕ) → HasLimits profile → AreDecls decls → IsScript profile decls text lines → IsBadScriptLine profile decls text number → ⊥
no_bad_script_line profile decls text lines number limits each p bad =
    let begun = begun_of profile decls text lines p in
    let no_end = end_has_none profile decls [] in
    elim bad as (λ _. ⊥) [
      | inl h ↦ (let first = begun_first profile decls text lines last_line begun in h.1 first.0 first.1)
      | inr (inl h) ↦
          let same = one_begun profile decls text lines h.0 last_line h.1 limits each begun h.3.begun no_end h.3.no_line in
          h.3.no_end [] (sym same.1)
      | inr (inr h) ↦
          let same = one_begun profile decls text lines h.0 last_line (last_line ++ h.1) limits each begun h.3.begun no_end (end_has_none profile decls h.1) in
          h.3.more (sym (append_cancel_left last_line [] h.1 same.1))
    ]

-- a text that is no script has one bad line
one_bad_script_line : (profile : Profile) (decls : List Decl) (text : List ℕ) (m n : ℕ) → HasLimits profile → AreDecls decls → IsBadScriptLine profile decls text m → IsBadScriptLine profile decls text n → m ≡ n
one_bad_script_line profile decls text m n limits each (inl p) (inl q) = p.0 ∙ sym q.0
one_bad_script_line profile decls text m n limits each (inl p) (inr (inl q)) = absurd (let first = begun_first profile decls text q.0 q.1 q.3.begun in p.1 first.0 first.1)
one_bad_script_line profile decls text m n limits each (inl p) (inr (inr q)) = absurd (let first = begun_first profile decls text q.0 (last_line ++ q.1) q.3.begun in p.1 first.0 first.1)
one_bad_script_line profile decls text m n limits each (inr (inl p)) (inl q) = absurd (let first = begun_first profile decls text p.0 p.1 p.3.begun in q.1 first.0 first.1)
one_bad_script_line profile decls text m n limits each (inr (inr p)) (inl q) = absurd (let first = begun_first profile decls text p.0 (last_line ++ p.1) p.3.begun in q.1 first.0 first.1)
one_bad_script_line profile decls text m n limits each (inr (inl p)) (inr (inl q)) =
    let same = one_begun profile decls text p.0 q.0 p.1 q.1 limits each p.3.begun q.3.begun p.3.no_line q.3.no_line in
    p.2 ∙ ap (λ (ls : List ScriptLine). length ls + 2) same.0 ∙ sym q.2
one_bad_script_line profile decls text m n limits each (inr (inl p)) (inr (inr q)) =
    let same = one_begun profile decls text p.0 q.0 p.1 (last_line ++ q.1) limits each p.3.begun q.3.begun p.3.no_line (end_has_none profile decls q.1) in
    absurd (p.3.no_end q.1 same.1)
one_bad_script_line profile decls text m n limits each (inr (inr p)) (inr (inl q)) =
    let same = one_begun profile decls text p.0 q.0 (last_line ++ p.1) q.1 limits each p.3.begun q.3.begun (end_has_none profile decls p.1) q.3.no_line in
    absurd (q.3.no_end p.1 (sym same.1))
one_bad_script_line profile decls text m n limits each (inr (inr p)) (inr (inr q)) =
    let same = one_begun profile decls text p.0 q.0 (last_line ++ p.1) (last_line ++ q.1) limits each p.3.begun q.3.begun (end_has_none profile decls p.1) (end_has_none profile decls q.1) in
    p.2 ∙ ap (λ (ls : List ScriptLine). length ls + 3) same.0 ∙ sym q.2

-- ---- both

limits_1 : HasLimits version_1.profile
limits_1 = record { index = omega arith; version = omega arith }

decls_in : (bytes : List ℕ) (d : Document) (m : ℕ) (x : List ℕ) → IsFrontOf version_1 bytes d m x → AreDecls d.world.decls
decls_in bytes d m x p = (front_is_lawful version_1 bytes d m x version_1_is_format p).world.decls

pub one_scripted : (bytes : List ℕ) (d e : Document) (s t : List ScriptLine) → IsScripted bytes d s → IsScripted bytes e t → (d ≡ e) × (s ≡ t)
one_scripted bytes d e s t p q =
    let front = one_front version_1 bytes d e p.count q.count p.rest q.rest version_1_is_format p.front q.front in (
      front.0,
      one_lines version_1.profile d.world.decls p.rest s t limits_1 (decls_in bytes d p.count p.rest p.front) p.behind
          (subst (λ (x : List ℕ). IsScript version_1.profile d.world.decls x t) (sym front.2) (subst (λ (f : Document). IsScript version_1.profile f.world.decls q.rest t) (sym front.0) q.behind)),
    )

-- a bad line behind another reading of the same document
bad_there : (bytes : List ℕ) (d : Document) (m number : ℕ) (x : List ℕ) → IsFrontOf version_1 bytes d m x → (q : IsBadBehind bytes number) → (m ≡ q.count) × IsBadScriptLine version_1.profile d.world.decls x q.number_there
bad_there bytes d m number x p q =
    let front = one_front version_1 bytes d q.document m q.count x q.rest version_1_is_format p q.front in
    (front.1, subst (λ (t : List ℕ). IsBadScriptLine version_1.profile d.world.decls t q.number_there) (sym front.2) (subst (λ (f : Document). IsBadScriptLine version_1.profile f.world.decls q.rest q.number_there) (sym front.0) q.bad))

pub no_bad_scripted : (bytes : List ℕ) (d : Document) (s : List ScriptLine) (number : ℕ) → IsScripted bytes d s → IsBadScriptedLine bytes number → ⊥
no_bad_scripted bytes d s number p (inl q) = no_bad_front version_1 bytes d p.count number p.rest version_1_is_format p.front q
no_bad_scripted bytes d s number p (inr q) =
    no_bad_script_line version_1.profile d.world.decls p.rest s q.number_there limits_1 (decls_in bytes d p.count p.rest p.front) p.behind (bad_there bytes d p.count number p.rest p.front q).1

pub one_bad_scripted : (bytes : List ℕ) (m n : ℕ) → IsBadScriptedLine bytes m → IsBadScriptedLine bytes n → m ≡ n
one_bad_scripted bytes m n (inl p) (inl q) = one_number version_1 version_1_is_format bytes m n p.bad q.bad
one_bad_scripted bytes m n (inl p) (inr q) = absurd (no_bad_front version_1 bytes q.document q.count m q.rest version_1_is_format q.front p)
one_bad_scripted bytes m n (inr p) (inl q) = absurd (no_bad_front version_1 bytes p.document p.count n p.rest version_1_is_format p.front q)
one_bad_scripted bytes m n (inr p) (inr q) =
    let there = bad_there bytes p.document p.count n p.rest p.front q in
    let same = one_bad_script_line version_1.profile p.document.world.decls p.rest p.number_there q.number_there limits_1 (decls_in bytes p.document p.count p.rest p.front) p.bad there.1 in
    p.counted ∙ (λ i. there.0 i + same i) ∙ sym q.counted
