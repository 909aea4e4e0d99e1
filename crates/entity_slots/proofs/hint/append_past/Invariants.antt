use Rattle.std.proofs.Common.{◌≡◌, ◌-◌, ◌++◌, length, replicate, reverse}
use Rattle.std.specs.List.{range_with_len}
use Rattle.world_model.specs.Slots.{free_slot}
use Rattle.entity_slots.proofs.hint.append_past.Given as goal

-- the indices before this one are free, in ascending order, and there is room for the others
abbrev pub invariant-loop-index : goal.invariant-loop-index
invariant-loop-index l =
    let first = length l.fn.identifiers.slots in
    record {
      slots : l.identifiers.slots ≡ l.fn.identifiers.slots ++ replicate (l._index - first) (free_slot 0);
      free : l.identifiers.free ≡ reverse (range_with_len first (l._index - first)) ++ l.fn.identifiers.free;
      long : length l.identifiers.slots ≡ l._index;
      null : l.identifiers.null ≡ l.fn.identifiers.null;
      room : l.identifiers.room ≡ l.initial.identifiers.room;
    }
