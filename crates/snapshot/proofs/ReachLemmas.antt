-- How far bytes have been read: a field more, and the first bad field.
use Rattle.std.proofs.Common.{◌≡◌, inl, inr, ℕ, ◌+◌, true, false, List, [], ◌∷◌, ◌++◌, length, drop, refl, sym, ap, subst, ◌∙◌, arith, append_assoc, length-append}
use Rattle.std.proofs.lemmas.List.{append-nil}
use Rattle.std.proofs.lemmas.Bool.{cases_Bool, and_parts}
use Rattle.std.proofs.lemmas.Grind.{flat_map-append}
use Rattle.entity_id.proofs.ListLemmas.{all-append}
use Rattle.world_text.specs.Formats.{version_1}
use Rattle.world_text.specs.Fitting.{fits}
use Rattle.world_text.specs.LineKinds.{Line}
use Rattle.world_text.specs.LineKinds as line
use Rattle.world_text.proofs.AddingLemmas.{and_true, and_false_left, and_false_right}
use Rattle.snapshot.specs.Fields.{Field, IsField, line_in, field_bytes, bytes_of}
use Rattle.snapshot.specs.Due.{Due, is_due, due_after, due_from, due_behind, may_end}
use Rattle.snapshot.specs.Due as due
use Rattle.snapshot.specs.Snapshots.{lines_of_fields, admits, is_fitting, are_fitting, AreAdmissible, IsBadField, is_whole}
use Rattle.snapshot.specs.Reading.{Reaches}

pub bytes_push : (fields : List Field) (f : Field) (more : List ℕ) → bytes_of fields ++ (field_bytes f ++ more) ≡ bytes_of (fields ++ f ∷ []) ++ more
bytes_push fields f more =
    sym (append_assoc (bytes_of fields) (field_bytes f) more)
    ∙ ap (λ (x : List ℕ). x ++ more) (sym (flat_map-append field_bytes fields (f ∷ []) ∙ ap (λ (x : List ℕ). bytes_of fields ++ x) (append-nil (field_bytes f))))

length_push : (fields : List Field) (f : Field) → length (bytes_of (fields ++ f ∷ [])) ≡ length (bytes_of fields) + length (field_bytes f)
length_push fields f =
    ap length (flat_map-append field_bytes fields (f ∷ []) ∙ ap (λ (x : List ℕ). bytes_of fields ++ x) (append-nil (field_bytes f)))
    ∙ length-append (bytes_of fields) (field_bytes f)

pub due_push : (d : Due) (fields : List Field) (f : Field) → due_from d (fields ++ f ∷ []) ≡ due_after (due_from d fields) f
due_push d [] f = refl
due_push d (g ∷ fields) f = due_push (due_after d g) fields f

pub lines_push : (fields : List Field) (f : Field) → lines_of_fields (fields ++ f ∷ []) ≡ lines_of_fields fields ++ line_in f
lines_push fields f = flat_map-append line_in fields (f ∷ []) ∙ ap (λ (x : List Line). lines_of_fields fields ++ x) (append-nil (line_in f))

fit_push : (before fields : List Field) (f : Field) → are_fitting before fields ≡ true → is_fitting (before ++ fields) f ≡ true → are_fitting before (fields ++ f ∷ []) ≡ true
fit_push before [] f fit one = and_true _ _ (subst (λ fs. is_fitting fs f ≡ true) (append-nil before) one) refl
fit_push before (g ∷ fields) f fit one =
    let h = and_parts (is_fitting before g) (are_fitting (before ++ g ∷ []) fields) fit in
    and_true _ _ h.0 (fit_push (before ++ g ∷ []) fields f h.1 (subst (λ fs. is_fitting fs f ≡ true) (sym (append_assoc before (g ∷ []) fields)) one))

-- a field more that is admissible
pub admissible_push : (fields : List Field) (f : Field) → AreAdmissible fields → IsField f → is_fitting fields f ≡ true → AreAdmissible (fields ++ f ∷ [])
admissible_push fields f admissible is fit = record {
  each = all-append IsField fields (f ∷ []) admissible.each (is, tt);
  fit = fit_push [] fields f admissible.fit fit;
}

-- before the first field
pub reach_none : (bytes : List ℕ) (Holds : List Line → Type 0) → Holds [] → Reaches bytes 0 due.Mark Holds
reach_none bytes Holds holds = record { fields = []; admissible = record { each = tt; fit = refl }; starts = refl; spelled = refl; due_is = refl; holds = holds }

-- after a field more
pub reach_more : (bytes : List ℕ) (at to : ℕ) (d : Due) (Old New : List Line → Type 0) (f : Field) → Reaches bytes at d Old → IsField f → is_due d f ≡ true → drop at bytes ≡ field_bytes f ++ drop to bytes → to ≡ at + length (field_bytes f) → ((lines : List Line) → Old lines → admits lines f ≡ true) → ((lines : List Line) → Old lines → New (lines ++ line_in f)) → Reaches bytes to (due_after d f) New
reach_more bytes at to d Old New f h is is_next e size fit new =
    record {
      fields = h.fields ++ f ∷ [];
      admissible = admissible_push h.fields f h.admissible is (and_true _ _ (subst (λ (k : Due). is_due k f ≡ true) (sym h.due_is) is_next) (fit (lines_of_fields h.fields) h.holds));
      starts = omega (arith, size, h.starts, length_push h.fields f);
      spelled = h.spelled ∙ ap (λ (x : List ℕ). bytes_of h.fields ++ x) e ∙ bytes_push h.fields f (drop to bytes);
      due_is = due_push due.Mark h.fields f ∙ ap (λ (k : Due). due_after k f) h.due_is;
      holds = subst New (sym (lines_push h.fields f)) (new (lines_of_fields h.fields) h.holds);
    }

-- the next field is the first bad one where none that is due is admissible, and something is missing where nothing stands
pub bad_here : (bytes : List ℕ) (at : ℕ) (d : Due) (Holds : List Line → Type 0) → Reaches bytes at d Holds → ((f : Field) (more : List ℕ) → IsField f → is_due d f ≡ true → drop at bytes ≡ field_bytes f ++ more → (lines : List Line) → Holds lines → admits lines f ≡ false) → (drop at bytes ≡ [] → may_end d ≡ true → (lines : List Line) → Holds lines → fits version_1 lines line.End ≡ false) → IsBadField bytes at
bad_here bytes at d Holds h none missing = record {
  fields = h.fields;
  rest = drop at bytes;
  starts = h.starts;
  admissible = h.admissible;
  spelled = h.spelled;
  no_field = λ f more is e. elim (cases_Bool (is_due d f)) as (λ _. is_fitting h.fields f ≡ false) [
    | inl next ↦ and_false_right _ _ (none f more is next e (lines_of_fields h.fields) h.holds)
    | inr other ↦ and_false_left _ _ (subst (λ (k : Due). is_due k f ≡ false) (sym h.due_is) other)
  ];
  no_end = λ empty. elim (cases_Bool (may_end d)) as (λ _. is_whole h.fields ≡ false) [
    | inl may ↦ and_false_right _ _ (missing empty may (lines_of_fields h.fields) h.holds)
    | inr not ↦ and_false_left _ _ (subst (λ (k : Due). may_end k ≡ false) (sym h.due_is) not)
  ];
}

-- the same where more is due
pub bad_next : (bytes : List ℕ) (at : ℕ) (d : Due) (Holds : List Line → Type 0) → Reaches bytes at d Holds → may_end d ≡ false → ((f : Field) (more : List ℕ) → IsField f → is_due d f ≡ true → drop at bytes ≡ field_bytes f ++ more → (lines : List Line) → Holds lines → admits lines f ≡ false) → IsBadField bytes at
unfolding bad_here
bad_next bytes at d Holds h more none = bad_here bytes at d Holds h none (λ _ may _ _. absurd (let e : true ≡ false = sym may ∙ more in cc))

-- no place behind the last byte is reached
pub reached_within : (bytes : List ℕ) (at : ℕ) (d : Due) (Holds : List Line → Type 0) → Reaches bytes at d Holds → at + length (drop at bytes) ≡ length bytes
reached_within bytes at d Holds h = omega (arith, h.starts, ap length h.spelled, length-append (bytes_of h.fields) (drop at bytes))
