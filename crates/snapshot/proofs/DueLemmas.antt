-- Which field is due: of each kind of due, the one field.
use Rattle.std.proofs.Common.{◌≡◌, ℕ, suc, true, List, refl}
use Rattle.entity_id.specs.declared.entity.Entity.{Entity}
use Rattle.world_model.specs.declared.slot.Slot.{Slot}
use Rattle.world_text.specs.FieldValues.{FieldValue}
use Rattle.world_text.specs.LineKinds.{Line}
use Rattle.snapshot.specs.Fields.{Field}
use Rattle.snapshot.specs.Fields as field
use Rattle.snapshot.specs.Due.{is_due}
use Rattle.snapshot.specs.Due as due

pub mark_due : (f : Field) → is_due due.Mark f ≡ true → f ≡ field.Mark
mark_due field.Mark e = refl
mark_due _ e = absurd (cc)

pub version_due : (f : Field) → is_due due.Version f ≡ true → f ≡ field.Version
version_due field.Version e = refl
version_due _ e = absurd (cc)

pub header_count_due : (f : Field) → is_due due.HeaderCount f ≡ true → (count : ℕ) × (f ≡ field.HeaderCount count)
header_count_due (field.HeaderCount count) e = (count, refl)
header_count_due _ e = absurd (cc)

pub header_due : (left : ℕ) (f : Field) → is_due (due.Headers (suc left)) f ≡ true → (l : Line) × (f ≡ field.Header l)
header_due left (field.Header l) e = (l, refl)
header_due left _ e = absurd (cc)

pub tick_due : (f : Field) → is_due (due.Headers 0) f ≡ true → (tick : ℕ) × (f ≡ field.Tick tick)
tick_due (field.Tick tick) e = (tick, refl)
tick_due _ e = absurd (cc)

pub slot_count_due : (f : Field) → is_due due.SlotCount f ≡ true → (count : ℕ) × (f ≡ field.SlotCount count)
slot_count_due (field.SlotCount count) e = (count, refl)
slot_count_due _ e = absurd (cc)

pub slot_due : (left free : ℕ) (f : Field) → is_due (due.Slots (suc left) free) f ≡ true → (slot : Slot) × (f ≡ field.Slot slot)
slot_due left free (field.Slot slot) e = (slot, refl)
slot_due left free _ e = absurd (cc)

pub next_due : (free : ℕ) (f : Field) → is_due (due.Slots 0 (suc free)) f ≡ true → (index : ℕ) × (f ≡ field.Next index)
next_due free (field.Next index) e = (index, refl)
next_due free _ e = absurd (cc)

pub row_count_due : (f : Field) → is_due (due.Slots 0 0) f ≡ true → (name : List ℕ) × (count : ℕ) × (f ≡ field.RowCount name count)
row_count_due (field.RowCount name count) e = (name, count, refl)
row_count_due _ e = absurd (cc)

pub next_row_count_due : (f : Field) → is_due (due.Rows 0) f ≡ true → (name : List ℕ) × (count : ℕ) × (f ≡ field.RowCount name count)
next_row_count_due (field.RowCount name count) e = (name, count, refl)
next_row_count_due _ e = absurd (cc)

pub row_due : (left : ℕ) (f : Field) → is_due (due.Rows (suc left)) f ≡ true → (entity : Entity) × (values : List FieldValue) × (f ≡ field.Row entity values)
row_due left (field.Row entity values) e = (entity, values, refl)
row_due left _ e = absurd (cc)
