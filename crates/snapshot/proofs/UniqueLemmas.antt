-- Bytes are read in one way.
use Rattle.std.proofs.Common.{◌≡◌, ◌⊎◌, inl, inr, ℕ, Bool, true, false, List, [], ◌∷◌, ◌++◌, length, length-append, refl, sym, ap, subst, ◌∙◌, arith, append_assoc}
use Rattle.std.specs.List.{AllByRecursion, flat_map}
use Rattle.std.proofs.lemmas.List.{append-nil}
use Rattle.std.proofs.lemmas.Bool.{and_parts}
use Rattle.row_lang.specs.Naming.{AreNamedDecls}
use Rattle.world_text.specs.declared.document.Document.{Document}
use Rattle.world_text.specs.Formats.{version_1}
use Rattle.world_text.specs.LineKinds.{Line}
use Rattle.world_text.specs.LineKinds as line
use Rattle.world_text.specs.Lines.{IsLine, text_of}
use Rattle.world_text.specs.Meaning.{decl_in}
use Rattle.world_text.specs.Fitting.{fit_after}
use Rattle.world_text.specs.Documents.{IsDocument}
use Rattle.world_text.proofs.LawfulLemmas.{version_1_is_format}
use Rattle.world_text.proofs.NamedLemmas.{none_named, named_push}
use Rattle.world_text.proofs.UniqueLemmas as texts
use Rattle.snapshot.specs.Fields.{Field, IsField, line_in, field_bytes, bytes_of}
use Rattle.snapshot.specs.Due.{is_due, due_behind}
use Rattle.snapshot.specs.Snapshots.{lines_of_fields, admits, is_fitting, are_fitting, AreAdmissible, is_whole, IsSnapshot, IsBadField}
use Rattle.snapshot.proofs.FieldLemmas.{some_bytes}
use Rattle.snapshot.proofs.ReachLemmas.{lines_push}
use Rattle.snapshot.proofs.SameLemmas.{same_field}

regroup : (f : Field) (a : List Field) (x : List ℕ) → bytes_of (f ∷ a) ++ x ≡ field_bytes f ++ (bytes_of a ++ x)
regroup f a x = append_assoc (field_bytes f) (bytes_of a) x

named_lines : (before ls : List Line) → AllByRecursion (IsLine version_1) ls → fit_after version_1 before ls ≡ true → AreNamedDecls (flat_map decl_in before) → AreNamedDecls (flat_map decl_in (before ++ ls))
named_lines before [] each fit named = subst (λ (all : List Line). AreNamedDecls (flat_map decl_in all)) (sym (append-nil before)) named
named_lines before (l ∷ ls) each fit named =
    let h = and_parts _ _ fit in
    subst (λ (all : List Line). AreNamedDecls (flat_map decl_in all)) (append_assoc before (l ∷ []) ls)
    (named_lines (before ++ l ∷ []) ls each.1 h.1 (named_push version_1 before l each.0 h.0 named))

-- a field more keeps components told apart by their names
named_more : (before : List Field) (f : Field) → IsField f → is_fitting before f ≡ true → AreNamedDecls (flat_map decl_in (lines_of_fields before)) → AreNamedDecls (flat_map decl_in (lines_of_fields (before ++ f ∷ [])))
named_more before f is fit named =
    subst (λ (all : List Line). AreNamedDecls (flat_map decl_in all)) (sym (lines_push before f))
    (named_lines (lines_of_fields before) (line_in f) is.line (and_parts _ _ (and_parts _ _ fit).1).1 named)

-- of two readings of the same bytes, one goes on where the other ends
abbrev pub OneGoesOn : List Field → List Field → List ℕ → List ℕ → Type 0
OneGoesOn a b x y = ((c : List Field) × (b ≡ a ++ c) × (x ≡ bytes_of c ++ y)) ⊎ ((c : List Field) × (a ≡ b ++ c) × (y ≡ bytes_of c ++ x))

go_on_after : (before a b : List Field) (x y : List ℕ) → AreNamedDecls (flat_map decl_in (lines_of_fields before)) → AllByRecursion IsField a → AllByRecursion IsField b → are_fitting before a ≡ true → are_fitting before b ≡ true → bytes_of a ++ x ≡ bytes_of b ++ y → OneGoesOn a b x y
go_on_after before [] b x y named p q fit_a fit_b e = inl (b, refl, e)
go_on_after before (f ∷ a) [] x y named p q fit_a fit_b e = inr (f ∷ a, refl, sym e)
go_on_after before (f ∷ a) (g ∷ b) x y named p q fit_a fit_b e =
    let tests_a = and_parts (is_fitting before f) (are_fitting (before ++ f ∷ []) a) fit_a in
    let tests_b = and_parts (is_fitting before g) (are_fitting (before ++ g ∷ []) b) fit_b in
    let of_a = and_parts (is_due (due_behind before) f) (admits (lines_of_fields before) f) tests_a.0 in
    let of_b = and_parts (is_due (due_behind before) g) (admits (lines_of_fields before) g) tests_b.0 in
    let same = same_field (due_behind before) (lines_of_fields before) f g (bytes_of a ++ x) (bytes_of b ++ y) named of_a.0 of_b.0 p.0 q.0 of_a.1 of_b.1 (sym (regroup f a x) ∙ e ∙ regroup g b y) in
    let behind_b : are_fitting (before ++ f ∷ []) b ≡ true = subst (λ (k : Field). are_fitting (before ++ k ∷ []) b ≡ true) (sym same.0) tests_b.1 in
    elim (go_on_after (before ++ f ∷ []) a b x y (named_more before f p.0 tests_a.0 named) p.1 q.1 tests_a.1 behind_b same.1) as (λ _. OneGoesOn (f ∷ a) (g ∷ b) x y) [
      | inl h ↦ inl (h.0, (λ i. sym same.0 i ∷ h.1 i), h.2)
      | inr h ↦ inr (h.0, (λ i. same.0 i ∷ h.1 i), h.2)
    ]

one_goes_on : (a b : List Field) (x y : List ℕ) → AreAdmissible a → AreAdmissible b → bytes_of a ++ x ≡ bytes_of b ++ y → OneGoesOn a b x y
one_goes_on a b x y p q e = go_on_after [] a b x y none_named p.each q.each p.fit q.fit e

no_bytes : (c : List Field) (y : List ℕ) → [] ≡ bytes_of c ++ y → (c ≡ []) × (y ≡ [])
no_bytes [] y e = (refl, sym e)
no_bytes (f ∷ c) y e = absurd (omega (arith, ap length (e ∙ regroup f c y), length-append (field_bytes f) (bytes_of c ++ y), some_bytes f))

fits_next : (before a c : List Field) (f : Field) → are_fitting before (a ++ f ∷ c) ≡ true → is_fitting (before ++ a) f ≡ true
fits_next before [] c f h = subst (λ fs. is_fitting fs f ≡ true) (sym (append-nil before)) (and_parts _ _ h).0
fits_next before (g ∷ a) c f h = subst (λ fs. is_fitting fs f ≡ true) (append_assoc before (g ∷ []) a) (fits_next (before ++ g ∷ []) a c f (and_parts _ _ h).1)

true_not_false : (b : Bool) → b ≡ true → b ≡ false → ⊥
true_not_false b p q = let e : true ≡ false = sym p ∙ q in absurd (cc)

last_is : (a c : List Field) (f : Field) → AllByRecursion IsField (a ++ f ∷ c) → IsField f
last_is [] c f h = h.0
last_is (g ∷ a) c f h = last_is a c f h.1

-- fields that go on past a bad one don't fit
not_past : (bytes : List ℕ) (k : ℕ) (bad : IsBadField bytes k) (a c : List Field) (y : List ℕ) → a ≡ bad.fields ++ c → bad.rest ≡ bytes_of c ++ y → AreAdmissible a → c ≡ []
not_past bytes k bad a [] y e rest admissible = refl
not_past bytes k bad a (f ∷ c) y e rest admissible = absurd (
    let yes = fits_next [] bad.fields c f (subst (λ fs. are_fitting [] fs ≡ true) e admissible.fit) in
    let no = bad.no_field f (bytes_of c ++ y) (last_is bad.fields c f (subst (AllByRecursion IsField) e admissible.each)) (rest ∙ regroup f c y) in
    true_not_false (is_fitting bad.fields f) yes no)

pub one_document : (bytes : List ℕ) (v w : Document) → IsSnapshot bytes v → IsSnapshot bytes w → v ≡ w
one_document bytes v w p q =
    let e : bytes_of p.fields ++ [] ≡ bytes_of q.fields ++ [] = append-nil _ ∙ sym p.spelled ∙ q.spelled ∙ sym (append-nil _) in
    let same : p.fields ≡ q.fields = elim (one_goes_on p.fields q.fields [] [] p.admissible q.admissible e) as (λ _. p.fields ≡ q.fields) [
      | inl h ↦ sym (h.1 ∙ ap (λ c. p.fields ++ c) (no_bytes h.0 [] h.2).0 ∙ append-nil p.fields)
      | inr h ↦ h.1 ∙ ap (λ c. q.fields ++ c) (no_bytes h.0 [] h.2).0 ∙ append-nil q.fields
    ] in
    let text : text_of version_1 (lines_of_fields q.fields ++ line.End ∷ []) ≡ text_of version_1 (lines_of_fields p.fields ++ line.End ∷ []) = ap (λ (fs : List Field). text_of version_1 (lines_of_fields fs ++ line.End ∷ [])) (sym same) in
    texts.one_document version_1 version_1_is_format _ v w p.stands (subst (λ (t : List ℕ). IsDocument t w) text q.stands)

pub no_bad_field : (bytes : List ℕ) (w : Document) (k : ℕ) → IsSnapshot bytes w → IsBadField bytes k → ⊥
no_bad_field bytes w k d bad =
    let e : bytes_of bad.fields ++ bad.rest ≡ bytes_of d.fields ++ [] = sym bad.spelled ∙ d.spelled ∙ sym (append-nil _) in
    elim (one_goes_on bad.fields d.fields bad.rest [] bad.admissible d.admissible e) as (λ _. ⊥) [
      | inl h ↦
          let none = not_past bytes k bad d.fields h.0 [] h.1 h.2 d.admissible in
          let same : d.fields ≡ bad.fields = h.1 ∙ ap (λ c. bad.fields ++ c) none ∙ append-nil bad.fields in
          true_not_false (is_whole bad.fields) (sym (ap is_whole same) ∙ d.whole) (bad.no_end (h.2 ∙ ap (λ c. bytes_of c ++ []) none))
      | inr h ↦
          let none = no_bytes h.0 bad.rest h.2 in
          let same : bad.fields ≡ d.fields = h.1 ∙ ap (λ c. d.fields ++ c) none.0 ∙ append-nil d.fields in
          true_not_false (is_whole bad.fields) (ap is_whole same ∙ d.whole) (bad.no_end none.1)
    ]

pub one_offset : (bytes : List ℕ) (j k : ℕ) → IsBadField bytes j → IsBadField bytes k → j ≡ k
one_offset bytes j k p q =
    let e : bytes_of p.fields ++ p.rest ≡ bytes_of q.fields ++ q.rest = sym p.spelled ∙ q.spelled in
    elim (one_goes_on p.fields q.fields p.rest q.rest p.admissible q.admissible e) as (λ _. j ≡ k) [
      | inl h ↦
          let none = not_past bytes j p q.fields h.0 q.rest h.1 h.2 q.admissible in
          p.starts ∙ sym (ap (λ (fs : List Field). length (bytes_of fs)) (h.1 ∙ ap (λ c. p.fields ++ c) none ∙ append-nil p.fields)) ∙ sym q.starts
      | inr h ↦
          let none = not_past bytes k q p.fields h.0 p.rest h.1 h.2 p.admissible in
          p.starts ∙ ap (λ (fs : List Field). length (bytes_of fs)) (h.1 ∙ ap (λ c. q.fields ++ c) none ∙ append-nil q.fields) ∙ sym q.starts
    ]
