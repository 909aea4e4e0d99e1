use Rattle.std.proofs.Common.{◌≡◌, ◌≤◌, [], length, map, take}
use Rattle.world_model.specs.Slots.{live_slot}
use Rattle.entity_slots.proofs.loading.all_live.Given as goal

-- the first slots are made, as if they were live, and there is room for all
abbrev pub invariant-loop-slot : goal.invariant-loop-slot
invariant-loop-slot l = record {
  slots : l.made.slots ≡ map (λ slot. live_slot slot.version) (take l.slot-index l.slots);
  long : length l.made.slots ≡ l.slot-index;
  free : l.made.free ≡ [];
  null : l.made.null ≡ l.null;
  room : length l.slots ≤ l.made.room;
}
