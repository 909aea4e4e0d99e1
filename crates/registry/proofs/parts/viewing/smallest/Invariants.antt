use Rattle.std.proofs.Common.{◌<◌, length}
use Rattle.registry.proofs.parts.viewing.smallest.Given as goal

abbrev pub invariant-loop-place : goal.invariant-loop-place
invariant-loop-place g l = l.least < length l.all
