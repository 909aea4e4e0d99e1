-- Bytes are a snapshot, or have a first bad field: none are neither.
use Rattle.std.proofs.Common.{◌≡◌, inl, inr, ℕ, zero, suc, ◌<◌, false, List, [], ◌∷◌, ◌++◌, length, length-append, refl, ap, ◌∙◌, arith}
use Rattle.std.proofs.lemmas.Bool.{cases_Bool}
use Rattle.std.proofs.lemmas.List.{append-nil}
use Rattle.world_text.specs.declared.document.Document.{Document}
use Rattle.snapshot.specs.Fields.{Field, field_bytes, bytes_of}
use Rattle.snapshot.specs.Snapshots.{AreAdmissible, is_fitting, is_whole, IsSnapshot, IsBadField}
use Rattle.snapshot.proofs.ReachLemmas.{admissible_push, bytes_push}
use Rattle.snapshot.proofs.FieldLemmas.{some_bytes}
use Rattle.snapshot.proofs.LawfulLemmas.{snapshot_of}

module _ (bytes : List ℕ) (no_snapshot : (document : Document) → IsSnapshot bytes document → ⊥) (no_bad : (offset : ℕ) → IsBadField bytes offset → ⊥) where
  -- admissible fields are followed by a further one, without end
  no_fields : (most : ℕ) (fields : List Field) (rest : List ℕ) → length rest < most → AreAdmissible fields → bytes ≡ bytes_of fields ++ rest → ⊥
  no_fields zero fields rest few admissible spelled = omega arith
  no_fields (suc most) fields rest few admissible spelled =
      no_bad (length (bytes_of fields)) (record {
        fields = fields;
        rest = rest;
        starts = refl;
        admissible = admissible;
        spelled = spelled;
        no_field = λ f more is e. elim (cases_Bool (is_fitting fields f)) as (λ _. is_fitting fields f ≡ false) [
          | inr not ↦ not
          | inl fit ↦ absurd (no_fields most (fields ++ f ∷ []) more
              (omega (arith, ap length e, length-append (field_bytes f) more, some_bytes f))
              (admissible_push fields f admissible is fit)
              (spelled ∙ ap (λ (x : List ℕ). bytes_of fields ++ x) e ∙ bytes_push fields f more))
        ];
        no_end = λ empty. elim (cases_Bool (is_whole fields)) as (λ _. is_whole fields ≡ false) [
          | inr not ↦ not
          | inl whole ↦ absurd (let snapshot = snapshot_of bytes fields admissible whole (spelled ∙ ap (λ (x : List ℕ). bytes_of fields ++ x) empty ∙ append-nil (bytes_of fields)) in no_snapshot snapshot.0 snapshot.1)
        ];
      })

pub snapshot_or_bad : (bytes : List ℕ) → ((document : Document) → IsSnapshot bytes document → ⊥) → ((offset : ℕ) → IsBadField bytes offset → ⊥) → ⊥
snapshot_or_bad bytes no_snapshot no_bad = no_fields bytes no_snapshot no_bad (suc (length bytes)) [] bytes (omega arith) (record { each = tt; fit = refl }) refl
