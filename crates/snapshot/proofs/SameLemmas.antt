-- Of the fields that are admissible behind others, bytes begin with one at most.
use Rattle.std.proofs.Common.{◌≡◌, ℕ, zero, suc, true, false, List, [], ◌∷◌, ◌++◌, drop, Option, Some, None, slice_get, refl, sym, ap, subst, ◌∙◌, arith}
use Rattle.std.specs.List.{flat_map}
use Rattle.std.specs.Option.{option_map_or}
use Rattle.std.proofs.lemmas.Bool.{and_parts}
use Rattle.entity_id.specs.declared.entity.Entity.{Entity}
use Rattle.world_model.specs.declared.component.Decl.{Decl}
use Rattle.world_model.specs.Components.{kinds_of}
use Rattle.world_model.specs.Slots.{is_live}
use Rattle.row_lang.specs.Naming.{AreNamedDecls}
use Rattle.world_text.specs.FieldValues.{FieldValue}
use Rattle.world_text.specs.LineKinds.{Line}
use Rattle.world_text.specs.LineKinds as line
use Rattle.world_text.specs.Formats.{version_1}
use Rattle.world_text.specs.Lines.{line_text}
use Rattle.world_text.specs.Meaning.{decl_in, slot_in}
use Rattle.world_text.specs.Fitting.{are_of_kinds, fits, fit_after}
use Rattle.world_text.proofs.LawfulLemmas.{version_1_is_format}
use Rattle.world_text.proofs.LineLemmas.{same_fitting_line}
use Rattle.snapshot.specs.Fields.{Field, IsField, line_in, value_bytes, field_bytes}
use Rattle.snapshot.specs.Fields as field
use Rattle.snapshot.specs.Due.{Due, is_due}
use Rattle.snapshot.specs.Due as due
use Rattle.snapshot.specs.Snapshots.{admits}
use Rattle.snapshot.proofs.ValueLemmas.{same_u32, same_u64, same_values}
use Rattle.snapshot.proofs.FieldLemmas.{same_line_bytes, same_slot, same_live, same_next_name}

-- the place of a kind of field in the order
place : Field → ℕ
place field.Mark = 0
place field.Version = 1
place (field.HeaderCount count) = 2
place (field.Header l) = 3
place (field.Tick tick) = 4
place (field.SlotCount count) = 5
place (field.Slot slot) = 6
place (field.Next index) = 7
place (field.RowCount name count) = 8
place (field.Row entity values) = 9

-- the place of what is due
place_due : Due → ℕ
place_due due.Mark = 0
place_due due.Version = 1
place_due due.HeaderCount = 2
place_due (due.Headers zero) = 4
place_due (due.Headers (suc left)) = 3
place_due due.SlotCount = 5
place_due (due.Slots (suc left) free) = 6
place_due (due.Slots zero (suc free)) = 7
place_due (due.Slots zero zero) = 8
place_due (due.Rows zero) = 8
place_due (due.Rows (suc left)) = 9

due_place : (d : Due) (f : Field) → is_due d f ≡ true → place f ≡ place_due d
unfolding place place_due
due_place due.Mark field.Mark e = refl
due_place due.Version field.Version e = refl
due_place due.HeaderCount (field.HeaderCount count) e = refl
due_place (due.Headers (suc left)) (field.Header l) e = refl
due_place (due.Headers zero) (field.Tick tick) e = refl
due_place due.SlotCount (field.SlotCount count) e = refl
due_place (due.Slots (suc left) free) (field.Slot slot) e = refl
due_place (due.Slots zero (suc free)) (field.Next index) e = refl
due_place (due.Slots zero zero) (field.RowCount name count) e = refl
due_place (due.Rows (suc left)) (field.Row entity values) e = refl
due_place (due.Rows zero) (field.RowCount name count) e = refl
due_place _ _ e = absurd (cc)

-- the kinds of the last pool's component, which values have
last_kinds : (decls : List Decl) (n : ℕ) (a b : List FieldValue) → option_map_or (λ (decl : Decl). are_of_kinds (kinds_of decl) a) (slice_get decls n) false ≡ true → option_map_or (λ (decl : Decl). are_of_kinds (kinds_of decl) b) (slice_get decls n) false ≡ true → (decl : Decl) × (are_of_kinds (kinds_of decl) a ≡ true) × (are_of_kinds (kinds_of decl) b ≡ true)
last_kinds decls n a b p q = by_decl (slice_get decls n) p q
  where
    by_decl : (found : Option Decl) → option_map_or (λ (decl : Decl). are_of_kinds (kinds_of decl) a) found false ≡ true → option_map_or (λ (decl : Decl). are_of_kinds (kinds_of decl) b) found false ≡ true → (decl : Decl) × (are_of_kinds (kinds_of decl) a ≡ true) × (are_of_kinds (kinds_of decl) b ≡ true)
    by_decl None e f = absurd cc
    by_decl (Some decl) e f = (decl, e, f)

-- what fits behind lines where a field of one line is admissible
line_fits : (lines : List Line) (f : Field) (l : Line) → line_in f ≡ l ∷ [] → admits lines f ≡ true → fits version_1 lines l ≡ true
line_fits lines f l one h =
    let behind : fit_after version_1 lines (l ∷ []) ≡ true = subst (λ (ls : List Line). fit_after version_1 lines ls ≡ true) one (and_parts _ _ h).1 in
    (and_parts _ _ behind).0

same_row : (lines : List Line) (a b : Entity) (v w : List FieldValue) (x y : List ℕ) → fits version_1 lines (line.Row a v) ≡ true → fits version_1 lines (line.Row b w) ≡ true → IsField (field.Row a v) → IsField (field.Row b w) → field_bytes (field.Row a v) ++ x ≡ field_bytes (field.Row b w) ++ y → (field.Row a v ≡ field.Row b w) × (x ≡ y)
same_row lines a b v w x y p q is_a is_b e =
    let tests_a = and_parts (is_live (flat_map slot_in lines) a) _ (and_parts _ _ p).1 in
    let tests_b = and_parts (is_live (flat_map slot_in lines) b) _ (and_parts _ _ q).1 in
    let index = same_u32 a.index b.index (flat_map value_bytes v ++ x) (flat_map value_bytes w ++ y) (omega (arith, is_a.line.0.of_profile.index)) (omega (arith, is_b.line.0.of_profile.index)) e in
    let kinds = last_kinds (flat_map decl_in lines) _ v w (and_parts _ _ tests_a.1).1 (and_parts _ _ tests_b.1).1 in
    let entity = same_live (flat_map slot_in lines) a b tests_a.0 tests_b.0 index.0 in
    let values = same_values (kinds_of kinds.0) v w x y kinds.1 kinds.2 is_a.line.0.each is_b.line.0.each index.1 in
    ((λ i. field.Row (entity i) (values.0 i)), values.1)

-- bytes begin with one field of a kind
same_of_kind : (lines : List Line) (f g : Field) (x y : List ℕ) → AreNamedDecls (flat_map decl_in lines) → place f ≡ place g → IsField f → IsField g → admits lines f ≡ true → admits lines g ≡ true → field_bytes f ++ x ≡ field_bytes g ++ y → (f ≡ g) × (x ≡ y)
unfolding place
same_of_kind lines field.Mark field.Mark x y named kind p q fit_f fit_g e = (refl, ap (drop 8) e)
same_of_kind lines field.Version field.Version x y named kind p q fit_f fit_g e = (refl, ap (drop 4) e)
same_of_kind lines (field.HeaderCount a) (field.HeaderCount b) x y named kind p q fit_f fit_g e =
    let same = same_u32 a b x y (omega (arith, p.within)) (omega (arith, q.within)) e in (ap field.HeaderCount same.0, same.1)
same_of_kind lines (field.Header a) (field.Header b) x y named kind p q fit_f fit_g e =
    let texts = same_line_bytes (line_text version_1 a) (line_text version_1 b) x y p.within.1 q.within.1 e in
    (ap field.Header (same_fitting_line version_1 lines version_1_is_format named a b p.line.0 q.line.0 (line_fits lines (field.Header a) a refl fit_f) (line_fits lines (field.Header b) b refl fit_g) texts.0), texts.1)
same_of_kind lines (field.Tick a) (field.Tick b) x y named kind p q fit_f fit_g e =
    let same = same_u64 a b x y (omega (arith, p.line.0)) (omega (arith, q.line.0)) e in (ap field.Tick same.0, same.1)
same_of_kind lines (field.SlotCount a) (field.SlotCount b) x y named kind p q fit_f fit_g e =
    let same = same_u32 a b x y (omega (arith, p.within)) (omega (arith, q.within)) e in (ap field.SlotCount same.0, same.1)
same_of_kind lines (field.Slot a) (field.Slot b) x y named kind p q fit_f fit_g e =
    let same = same_slot a b x y p.line.0 q.line.0 e in (ap field.Slot same.0, same.1)
same_of_kind lines (field.Next a) (field.Next b) x y named kind p q fit_f fit_g e =
    let same = same_u32 a b x y (omega (arith, p.line.0)) (omega (arith, q.line.0)) e in (ap field.Next same.0, same.1)
same_of_kind lines (field.RowCount a m) (field.RowCount b n) x y named kind p q fit_f fit_g e =
    let same = same_u32 m n x y p.within q.within e in
    let name = same_next_name lines a b (line_fits lines (field.RowCount a m) (line.Pool a) refl fit_f) (line_fits lines (field.RowCount b n) (line.Pool b) refl fit_g) in
    ((λ i. field.RowCount (name i) (same.0 i)), same.1)
same_of_kind lines (field.Row a v) (field.Row b w) x y named kind p q fit_f fit_g e =
    same_row lines a b v w x y (line_fits lines (field.Row a v) (line.Row a v) refl fit_f) (line_fits lines (field.Row b w) (line.Row b w) refl fit_g) p q e
same_of_kind lines f g x y named kind p q fit_f fit_g e = absurd (omega (arith, kind))

-- bytes begin with one field where one is due
pub same_field : (d : Due) (lines : List Line) (f g : Field) (x y : List ℕ) → AreNamedDecls (flat_map decl_in lines) → is_due d f ≡ true → is_due d g ≡ true → IsField f → IsField g → admits lines f ≡ true → admits lines g ≡ true → field_bytes f ++ x ≡ field_bytes g ++ y → (f ≡ g) × (x ≡ y)
same_field d lines f g x y named due_f due_g p q fit_f fit_g e =
    same_of_kind lines f g x y named (due_place d f due_f ∙ sym (due_place d g due_g)) p q fit_f fit_g e
