use Rattle.tick_runner.proofs.GivingLemmas.{fits_in}
use Rattle.tick_runner.proofs.tests.each_system_runs_once_and_then_its_orders_are_carried_out.Goals as goal

pub tick_plain-requires-clause-fit : goal.tick_plain-requires-clause-fit
tick_plain-requires-clause-fit g c =
    let w = c.in_ok-empty_registry.field-0.world in
    (fits_in w.profile w.decls c.in_ok-giving.field-0.access c.in_ok-giving.field-0.order c.in_ok-empty_registry.ensures c.in_ok-giving.ensures, (fits_in w.profile w.decls c.in_ok-giving-2.field-0.access c.in_ok-giving-2.field-0.order c.in_ok-empty_registry.ensures c.in_ok-giving-2.ensures, tt))
