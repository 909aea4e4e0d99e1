use Rattle.std.proofs.Common.{◌≡◌, ◌++◌, take, map, length}
use Rattle.snapshot.specs.Fields.{bytes_of, u32_bytes}
use Rattle.snapshot.specs.Fields as field
use Rattle.snapshot.proofs.packing.push_slots.Given as goal

abbrev pub invariant-loop-slot : goal.invariant-loop-slot
invariant-loop-slot l = l.out.items ≡ l.fn.out.items ++ (u32_bytes (length l.slots) ++ bytes_of (map field.Slot (take l.slot-index l.slots)))
