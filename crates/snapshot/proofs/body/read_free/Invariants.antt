use Rattle.std.proofs.Common.{◌-◌}
use Rattle.snapshot.specs.Reading.{SlotsDue}
use Rattle.snapshot.proofs.body.read_free.Given as goal

abbrev pub invariant-loop : goal.invariant-loop
invariant-loop l = SlotsDue l.bytes l.to l.draft 0 (l.free - l.counter)
