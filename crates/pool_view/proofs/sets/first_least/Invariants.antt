use Rattle.std.specs.Prelude.{nat_lt}
use Rattle.std.specs.List.{IsFirstBest}
use Rattle.pool_view.proofs.sets.first_least.Given as goal

abbrev pub invariant-loop-place : goal.invariant-loop-place
invariant-loop-place l = IsFirstBest nat_lt l.numbers l.place l.least
