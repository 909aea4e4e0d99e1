use Rattle.std.proofs.Common.{◌-◌}
use Rattle.snapshot.specs.Reading.{HeadersDue}
use Rattle.snapshot.proofs.beginning.read_header.Given as goal

abbrev pub invariant-loop : goal.invariant-loop
invariant-loop l = HeadersDue l.bytes l.at l.header (l.count - l.counter)
