use Rattle.ready_board.specs.Testing.{IsIdle}
use Rattle.ready_board.proofs.tests.work.Given as goal

abbrev pub invariant-working : goal.invariant-working
invariant-working g l =
    (goal.iterator-working g).can_next l.iterator' × (goal.iterator-working g).is_finite l.iterator' × IsIdle l.board l.seat
