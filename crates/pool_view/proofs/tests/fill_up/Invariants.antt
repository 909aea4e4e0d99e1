use Rattle.std.proofs.Common.{◌≡◌, length}
use Rattle.pool_view.proofs.tests.fill_up.Given as goal

abbrev pub invariant-loop-included : goal.invariant-loop-included
invariant-loop-included g l = record {
  included : length l.view.included ≡ l._included;
  excluded : length l.view.excluded ≡ 0;
}

abbrev pub invariant-loop-excluded : goal.invariant-loop-excluded
invariant-loop-excluded g l = length l.view.excluded ≡ l._excluded
