-- Which field is due behind others, by what they count.
use Rattle.std.specs.Prelude.{ℕ, zero, suc, Bool, true, false, List, [], ◌∷◌, if◌then◌else◌}
use Rattle.snapshot.specs.Fields.{Field}
use Rattle.snapshot.specs.Fields as field

-- the mark, the version, the header count, so many header lines and then the tick number, the slot count, so many slots, and so many indices
-- on the free list, which are free slots, and so many rows. Where none of these is due it is the next component's row count
pub data Due : Type 0 where
  Mark : Due
  Version : Due
  HeaderCount : Due
  Headers : ℕ → Due
  SlotCount : Due
  Slots : ℕ → ℕ → Due
  Rows : ℕ → Due

-- whether a field is of the kind that is due
abbrev pub is_due : Due → Field → Bool
is_due Mark field.Mark = true
is_due Version field.Version = true
is_due HeaderCount (field.HeaderCount count) = true
is_due (Headers (suc left)) (field.Header line) = true
is_due (Headers zero) (field.Tick tick) = true
is_due SlotCount (field.SlotCount count) = true
is_due (Slots (suc left) free) (field.Slot slot) = true
is_due (Slots zero (suc free)) (field.Next index) = true
is_due (Slots zero zero) (field.RowCount name count) = true
is_due (Rows (suc left)) (field.Row entity values) = true
is_due (Rows zero) (field.RowCount name count) = true
is_due _ _ = false

-- one less of what is due; a slot that is free is due on the free list
abbrev pub one_less : Due → Due
one_less (Headers (suc left)) = Headers left
one_less (Rows (suc left)) = Rows left
one_less due = due

-- what is due once a slot stands
abbrev pub with_slot : Due → Bool → Due
with_slot (Slots (suc left) free) live = Slots left (if live then free else suc free)
with_slot due live = due

-- what is due once an index stands on the free list
abbrev pub with_next : Due → Due
with_next (Slots left (suc free)) = Slots left free
with_next due = due

-- what is due behind a field
abbrev pub due_after : Due → Field → Due
due_after due field.Mark = Version
due_after due field.Version = HeaderCount
due_after due (field.HeaderCount count) = Headers count
due_after due (field.Header line) = one_less due
due_after due (field.Tick tick) = SlotCount
due_after due (field.SlotCount count) = Slots count 0
due_after due (field.Slot slot) = with_slot due slot.live
due_after due (field.Next index) = with_next due
due_after due (field.RowCount name count) = Rows count
due_after due (field.Row entity values) = one_less due

-- what is due behind fields
abbrev pub due_from : Due → List Field → Due
due_from due [] = due
due_from due (field ∷ fields) = due_from (due_after due field) fields

-- what is due behind the first fields of a snapshot
abbrev pub due_behind : List Field → Due
due_behind fields = due_from Mark fields

-- whether nothing more is due, but perhaps a row count
abbrev pub may_end : Due → Bool
may_end (Slots zero zero) = true
may_end (Rows zero) = true
may_end _ = false
