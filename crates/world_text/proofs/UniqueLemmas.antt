-- A text is read in one way.
use Rattle.std.proofs.Common.{◌≡◌, ◌⊎◌, inl, inr, ℕ, Bool, true, false, List, [], ◌∷◌, ◌++◌, length, length-append, refl, sym, ap, subst, ◌∙◌, arith, append_assoc}
use Rattle.std.specs.List.{AllByRecursion, flat_map}
use Rattle.std.proofs.lemmas.List.{append-nil}
use Rattle.std.proofs.lemmas.Bool.{and_parts}
use Rattle.entity_id.proofs.CutLemmas.{same_cut}
use Rattle.world_text.specs.declared.format.Format.{Format}
use Rattle.world_text.specs.declared.document.Document.{Document}
use Rattle.world_text.specs.LineKinds.{Line}
use Rattle.world_text.specs.Formats.{IsFormat}
use Rattle.world_text.specs.Lines.{IsLine, line_text, text_of}
use Rattle.row_lang.specs.Naming.{AreNamedDecls}
use Rattle.world_text.specs.Meaning.{decl_in, world_of}
use Rattle.world_text.specs.SystemLines.{systems_in}
use Rattle.world_text.specs.Fitting.{fits, fit_after, last_section}
use Rattle.world_text.specs.Documents.{AreAdmissible, IsDocumentOf, IsBadLineOf}
use Rattle.world_text.proofs.LineLemmas.{line_lacks, same_fitting_line}
use Rattle.world_text.proofs.NamedLemmas.{none_named, named_push}

module _ (format : Format) (is_format : IsFormat format) where
  regroup : (l : Line) (a : List Line) (x : List ℕ) → text_of format (l ∷ a) ++ x ≡ line_text format l ++ 10 ∷ (text_of format a ++ x)
  regroup l a x = append_assoc (line_text format l ++ 10 ∷ []) (text_of format a) x ∙ append_assoc (line_text format l) (10 ∷ []) (text_of format a ++ x)

  -- of two readings of one text, one goes on where the other ends
  abbrev pub OneGoesOn : List Line → List Line → List ℕ → List ℕ → Type 0
  OneGoesOn a b x y = ((c : List Line) × (b ≡ a ++ c) × (x ≡ text_of format c ++ y)) ⊎ ((c : List Line) × (a ≡ b ++ c) × (y ≡ text_of format c ++ x))

  -- both fit behind the same lines
  go_on_after : (before a b : List Line) (x y : List ℕ) → AreNamedDecls (flat_map decl_in before) → AllByRecursion (IsLine format) a → AllByRecursion (IsLine format) b → fit_after format before a ≡ true → fit_after format before b ≡ true → text_of format a ++ x ≡ text_of format b ++ y → OneGoesOn a b x y
  go_on_after before [] b x y named p q fit_a fit_b e = inl (b, refl, e)
  go_on_after before (l ∷ a) [] x y named p q fit_a fit_b e = inr (l ∷ a, refl, sym e)
  go_on_after before (l ∷ a) (m ∷ b) x y named p q fit_a fit_b e =
      let tests_a = and_parts (fits format before l) (fit_after format (before ++ l ∷ []) a) fit_a in
      let tests_b = and_parts (fits format before m) (fit_after format (before ++ m ∷ []) b) fit_b in
      let cut = same_cut 10 (line_text format l) (line_text format m) (text_of format a ++ x) (text_of format b ++ y) (line_lacks format l is_format p.0) (line_lacks format m is_format q.0) (sym (regroup l a x) ∙ e ∙ regroup m b y) in
      let same = same_fitting_line format before is_format named l m p.0 q.0 tests_a.0 tests_b.0 cut.0 in
      let behind_b : fit_after format (before ++ l ∷ []) b ≡ true = subst (λ (k : Line). fit_after format (before ++ k ∷ []) b ≡ true) (sym same) tests_b.1 in
      elim (go_on_after (before ++ l ∷ []) a b x y (named_push format before l p.0 tests_a.0 named) p.1 q.1 tests_a.1 behind_b cut.1) as (λ _. OneGoesOn (l ∷ a) (m ∷ b) x y) [
        | inl h ↦ inl (h.0, (λ i. sym same i ∷ h.1 i), h.2)
        | inr h ↦ inr (h.0, (λ i. same i ∷ h.1 i), h.2)
      ]

  pub one_goes_on : (a b : List Line) (x y : List ℕ) → AreAdmissible format a → AreAdmissible format b → text_of format a ++ x ≡ text_of format b ++ y → OneGoesOn a b x y
  one_goes_on a b x y p q e = go_on_after [] a b x y none_named p.each q.each p.fit q.fit e

  no_text : (c : List Line) (y : List ℕ) → [] ≡ text_of format c ++ y → (c ≡ []) × (y ≡ [])
  no_text [] y e = (refl, sym e)
  no_text (l ∷ c) y e = absurd (omega (arith, ap length (e ∙ regroup l c y), length-append (line_text format l) (10 ∷ (text_of format c ++ y))))

  pub fits_next : (before a c : List Line) (l : Line) → fit_after format before (a ++ l ∷ c) ≡ true → fits format (before ++ a) l ≡ true
  fits_next before [] c l h = subst (λ ls. fits format ls l ≡ true) (sym (append-nil before)) (and_parts _ _ h).0
  fits_next before (m ∷ a) c l h = subst (λ ls. fits format ls l ≡ true) (append_assoc before (m ∷ []) a) (fits_next (before ++ m ∷ []) a c l (and_parts _ _ h).1)

  true_not_false : (b : Bool) → b ≡ true → b ≡ false → ⊥
  true_not_false b p q = let e : true ≡ false = sym p ∙ q in absurd (cc)

  last_is : (a c : List Line) (l : Line) → AllByRecursion (IsLine format) (a ++ l ∷ c) → IsLine format l
  last_is [] c l h = h.0
  last_is (m ∷ a) c l h = last_is a c l h.1

  -- lines that go on past a bad one don't fit
  pub not_past : (bytes : List ℕ) (k : ℕ) (bad : IsBadLineOf format bytes k) (a c : List Line) (y : List ℕ) → a ≡ bad.lines ++ c → bad.rest ≡ text_of format c ++ y → AllByRecursion (IsLine format) a → fit_after format [] a ≡ true → c ≡ []
  not_past bytes k bad a [] y e rest each fit = refl
  not_past bytes k bad a (l ∷ c) y e rest each fit = absurd (
      let yes = fits_next [] bad.lines c l (subst (λ ls. fit_after format [] ls ≡ true) e fit) in
      let no = bad.no_line l (text_of format c ++ y) (last_is bad.lines c l (subst (AllByRecursion (IsLine format)) e each)) (rest ∙ regroup l c y) in
      true_not_false (fits format bad.lines l) yes no)

  pub one_document : (bytes : List ℕ) (v w : Document) → IsDocumentOf format bytes v → IsDocumentOf format bytes w → v ≡ w
  one_document bytes v w p q =
      let e : text_of format p.lines ++ [] ≡ text_of format q.lines ++ [] = append-nil _ ∙ sym p.spelled ∙ q.spelled ∙ sym (append-nil _) in
      let same : p.lines ≡ q.lines = elim (one_goes_on p.lines q.lines [] [] p.admissible q.admissible e) as (λ _. p.lines ≡ q.lines) [
        | inl h ↦ sym (h.1 ∙ ap (λ c. p.lines ++ c) (no_text h.0 [] h.2).0 ∙ append-nil p.lines)
        | inr h ↦ h.1 ∙ ap (λ c. q.lines ++ c) (no_text h.0 [] h.2).0 ∙ append-nil q.lines
      ] in
      let worlds = p.world_is ∙ ap (world_of format) same ∙ sym q.world_is in
      let systems = p.systems_are ∙ ap (λ (ls : List Line). (systems_in ls).closed) same ∙ sym q.systems_are in
      λ i. record { world = worlds i; systems = systems i }

  pub no_bad_line : (bytes : List ℕ) (w : Document) (k : ℕ) → IsDocumentOf format bytes w → IsBadLineOf format bytes k → ⊥
  no_bad_line bytes w k d bad =
      let e : text_of format bad.lines ++ bad.rest ≡ text_of format d.lines ++ [] = sym bad.spelled ∙ d.spelled ∙ sym (append-nil _) in
      elim (one_goes_on bad.lines d.lines bad.rest [] bad.admissible d.admissible e) as (λ _. ⊥) [
        | inl h ↦
            let none = not_past bytes k bad d.lines h.0 [] h.1 h.2 d.admissible.each d.admissible.fit in
            bad.no_end (h.2 ∙ ap (λ c. text_of format c ++ []) none) (sym (ap last_section (h.1 ∙ ap (λ c. bad.lines ++ c) none ∙ append-nil bad.lines)) ∙ d.ended)
        | inr h ↦
            let none = no_text h.0 bad.rest h.2 in
            bad.no_end none.1 (ap last_section (h.1 ∙ ap (λ c. d.lines ++ c) none.0 ∙ append-nil d.lines) ∙ d.ended)
      ]

  pub one_number : (bytes : List ℕ) (j k : ℕ) → IsBadLineOf format bytes j → IsBadLineOf format bytes k → j ≡ k
  one_number bytes j k p q =
      let e : text_of format p.lines ++ p.rest ≡ text_of format q.lines ++ q.rest = sym p.spelled ∙ q.spelled in
      elim (one_goes_on p.lines q.lines p.rest q.rest p.admissible q.admissible e) as (λ _. j ≡ k) [
        | inl h ↦ let none = not_past bytes j p q.lines h.0 q.rest h.1 h.2 q.admissible.each q.admissible.fit in
            omega (arith, p.counted, q.counted, ap length h.1, length-append p.lines h.0, ap length none)
        | inr h ↦ let none = not_past bytes k q p.lines h.0 p.rest h.1 h.2 p.admissible.each p.admissible.fit in
            omega (arith, p.counted, q.counted, ap length h.1, length-append q.lines h.0, ap length none)
      ]
