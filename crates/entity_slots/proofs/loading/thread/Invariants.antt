use Rattle.std.proofs.Common.{◌≡◌, ◌≤◌, ◌-◌, length, drop}
use Rattle.entity_slots.proofs.LoadLemmas.{AreFreed}
use Rattle.entity_slots.proofs.loading.thread.Given as goal

-- the last ones of the free list are threaded, and all else is live
abbrev pub invariant-loop-done : goal.invariant-loop-done
invariant-loop-done l = record {
  freed : AreFreed l.slots l.made.slots (drop (length l.free - l.done) l.free);
  free : l.made.free ≡ drop (length l.free - l.done) l.free;
  null : l.made.null ≡ l.null;
  room : length l.slots ≤ l.made.room;
}
