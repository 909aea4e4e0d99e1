use Rattle.std.proofs.Common.{◌-◌, ◌≤◌}
use Rattle.snapshot.specs.Reading.{SlotsDue}
use Rattle.snapshot.proofs.body.read_slots.Given as goal

abbrev pub invariant-loop : goal.invariant-loop
invariant-loop l = record {
  due : SlotsDue l.bytes l.to l.draft (l.count - l.counter) l.free;
  few : l.free ≤ l.counter;
}
