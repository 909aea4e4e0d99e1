use Rattle.std.proofs.Common.{◌≡◌, ℕ, ◌<◌, length}
use Rattle.std.specs.Prelude.{◌↔◌}
use Rattle.access_graph.specs.Conflicts.{ComesBefore}
use Rattle.ready_board.specs.Sets.{Has, preds_of}
use Rattle.tick_runner.proofs.plan.order.preds_of.Given as goal

abbrev pub invariant-loop-system : goal.invariant-loop-system
invariant-loop-system l = record {
  counted : length l.preds.items ≡ l.system;
  each : (earlier system : ℕ) → system < l.system → Has (preds_of l.preds.items system) earlier ↔ ComesBefore l.accesses earlier system;
}
