-- What is said of a made world tells all of it.
use Rattle.std.proofs.Common.{◌≡◌, inl, inr, ℕ, Bool, true, ◌&&◌, List, [], ◌∷◌, ◌++◌, length, length-append, drop, map, refl, sym, ap, subst, ◌∙◌, arith}
use Rattle.std.specs.List.{AllByRecursion, flat_map, zip}
use Rattle.std.proofs.lemmas.Grind.{flat_map-append}
use Rattle.std.proofs.lemmas.Bool.{and_parts}
use Rattle.std.proofs.lemmas.List.{append-nil}
use Rattle.world_text.specs.declared.document.Document.{Document}
use Rattle.world_text.specs.Documents.{AreAdmissible, IsDocument, IsLawfulDocument, group_line, header_of, lines_of, pool_lines, system_lines, text}
use Rattle.world_text.specs.Formats.{version_1}
use Rattle.world_text.specs.LineKinds.{Line}
use Rattle.world_text.specs.LineKinds as line
use Rattle.world_text.specs.Lines.{IsLine, line_text, text_of}
use Rattle.world_text.specs.Fitting.{fit_after, fits}
use Rattle.world_text.specs.Meaning.{decl_in}
use Rattle.world_text.proofs.LawfulLemmas.{version_1_is_format}
use Rattle.world_text.proofs.PrintedLemmas.{printed_admissible, printed_is_document}
use Rattle.world_text.proofs.PrintedMeaning.{each_in, none_in}
use Rattle.world_text.proofs.PrintedSystems.{none_in_systems}
use Rattle.world_text.proofs.UniqueLemmas.{one_document, one_goes_on}
use Rattle.world_maker.specs.MadeWorlds.{IsMade}

-- ---- lines at the front

each_front : (a b : List Line) → AllByRecursion (IsLine version_1) (a ++ b) → AllByRecursion (IsLine version_1) a
each_front [] b h = tt
each_front (l ∷ a) b h = (h.0, each_front a b h.1)

fit_front : (before a b : List Line) → fit_after version_1 before (a ++ b) ≡ true → fit_after version_1 before a ≡ true
fit_front before [] b h = refl
fit_front before (l ∷ a) b h =
    let parts = and_parts (fits version_1 before l) (fit_after version_1 (before ++ l ∷ []) (a ++ b)) h in
    ap (λ (t : Bool). t && fit_after version_1 (before ++ l ∷ []) a) parts.0 ∙ fit_front (before ++ l ∷ []) a b parts.1

admissible_front : (a b : List Line) → AreAdmissible version_1 (a ++ b) → AreAdmissible version_1 a
admissible_front a b h = record { each = each_front a b h.each; fit = fit_front [] a b h.fit }

-- lines that are spelled alike have one text
same_text : (a b : List Line) → map (line_text version_1) a ≡ map (line_text version_1) b → text_of version_1 a ≡ text_of version_1 b
same_text a b e = sym (of_texts a) ∙ ap (flat_map (λ (t : List ℕ). t ++ 10 ∷ [])) e ∙ of_texts b
  where
    of_texts : (ls : List Line) → flat_map (λ (t : List ℕ). t ++ 10 ∷ []) (map (line_text version_1) ls) ≡ text_of version_1 ls
    of_texts [] = refl
    of_texts (l ∷ ls) = ap (λ rest. (line_text version_1 l ++ 10 ∷ []) ++ rest) (of_texts ls)

no_line : (c : List Line) → [] ≡ text_of version_1 c ++ [] → c ≡ []
no_line [] e = refl
no_line (l ∷ c) e = absurd (omega (arith, ap length (e ∙ append-nil (text_of version_1 (l ∷ c))), length-append (line_text version_1 l ++ 10 ∷ []) (text_of version_1 c), length-append (line_text version_1 l) (10 ∷ [])))

-- admissible lines that are spelled alike are the same
same_lines : (a b : List Line) → AreAdmissible version_1 a → AreAdmissible version_1 b → map (line_text version_1) a ≡ map (line_text version_1) b → a ≡ b
same_lines a b p q e =
    elim (one_goes_on version_1 version_1_is_format a b [] [] p q (ap (λ (t : List ℕ). t ++ []) (same_text a b e))) as (λ _. a ≡ b) [
      | inl h ↦ sym (h.1 ∙ ap (λ (c : List Line). a ++ c) (no_line h.0 h.2) ∙ append-nil a)
      | inr h ↦ h.1 ∙ ap (λ (c : List Line). b ++ c) (no_line h.0 h.2) ∙ append-nil b
    ]

-- ---- headers

-- the lines behind the header
abbrev lines_behind : Document → List Line
lines_behind d =
    let w = d.world in
    line.Tick w.tick ∷ (map line.Slot w.slots ++ (map line.Next w.free ++ (flat_map (pool_lines w.profile) (zip w.decls w.pools) ++ line.End ∷ [])))

front_admissible : (d : Document) → IsLawfulDocument d → AreAdmissible version_1 (line.Version ∷ header_of d)
front_admissible d lawful = admissible_front (line.Version ∷ header_of d) (lines_behind d) (printed_admissible version_1 d lawful)

-- header lines tell the components
decls_in_header : (d : Document) → flat_map decl_in (header_of d) ≡ d.world.decls
decls_in_header d =
    let decls = d.world.decls in
    let groups : List Line = map (group_line decls) d.world.groups in
    let systems : List Line = flat_map (system_lines decls) d.systems in
    flat_map-append decl_in (map line.Component decls) (groups ++ systems)
    ∙ (λ i. each_in decl_in line.Component (λ _. refl) decls i ++ flat_map-append decl_in groups systems i)
    ∙ (λ i. decls ++ (none_in decl_in (group_line decls) (λ _. refl) d.world.groups i ++ none_in_systems decl_in (λ _. refl) (λ _ _. refl) decls d.systems i))
    ∙ append-nil decls

same_header : (a b : Document) → IsLawfulDocument a → IsLawfulDocument b → map (line_text version_1) (header_of a) ≡ map (line_text version_1) (header_of b) → header_of a ≡ header_of b
same_header a b p q e =
    ap (drop 1) (same_lines (line.Version ∷ header_of a) (line.Version ∷ header_of b) (front_admissible a p) (front_admissible b q) (ap (λ (ts : List (List ℕ)). line_text version_1 line.Version ∷ ts) e))

pub one_world : (number count : ℕ) (a b : Document) → IsMade number count a → IsMade number count b → a ≡ b
one_world number count a b p q =
    let header : header_of a ≡ header_of b = same_header a b p.lawful q.lawful (p.header ∙ sym q.header) in
    let decls : a.world.decls ≡ b.world.decls = sym (decls_in_header a) ∙ ap (flat_map decl_in) header ∙ decls_in_header b in
    let profile : a.world.profile ≡ b.world.profile = p.lawful.profile ∙ sym q.lawful.profile in
    let tick : a.world.tick ≡ b.world.tick = p.tick ∙ sym q.tick in
    let slots : a.world.slots ≡ b.world.slots = p.slots ∙ sym q.slots in
    let free : a.world.free ≡ b.world.free = p.free ∙ sym q.free in
    let pools : a.world.pools ≡ b.world.pools = p.pools ∙ sym q.pools in
    let lines : lines_of a ≡ lines_of b = λ i. line.Version ∷ (header i ++ (line.Tick (tick i) ∷ (map line.Slot (slots i) ++ (map line.Next (free i) ++ (flat_map (pool_lines (profile i)) (zip (decls i) (pools i)) ++ line.End ∷ []))))) in
    let same : text b ≡ text a = ap (text_of version_1) (sym lines) in
    one_document version_1 version_1_is_format (text a) a b (printed_is_document a p.lawful) (subst (λ (t : List ℕ). IsDocument t b) same (printed_is_document b q.lawful))
