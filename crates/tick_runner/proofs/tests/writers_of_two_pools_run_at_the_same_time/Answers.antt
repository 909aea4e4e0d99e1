use Rattle.tick_runner.proofs.GivingLemmas.{fits_in}
use Rattle.tick_runner.proofs.tests.writers_of_two_pools_run_at_the_same_time.Goals as goal

pub tick_shared-requires-clause-fit : goal.tick_shared-requires-clause-fit
tick_shared-requires-clause-fit g c κs =
    let w = c.in_ok-empty_registry.field-0.world in
    (fits_in w.profile w.decls c.in_ok-giving.field-0.access c.in_ok-giving.field-0.order c.in_ok-empty_registry.ensures c.in_ok-giving.ensures, (fits_in w.profile w.decls c.in_ok-giving-2.field-0.access c.in_ok-giving-2.field-0.order c.in_ok-empty_registry.ensures c.in_ok-giving-2.ensures, tt))
