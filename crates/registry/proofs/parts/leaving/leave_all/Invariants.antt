use Rattle.std.proofs.Common.{◌+◌, ◌≤◌}
use Rattle.std.specs.Prelude.{sum_by}
use Rattle.group_engine.specs.Grouped.{packed_of}
use Rattle.registry.specs.Costs.{row_steps}
use Rattle.registry.specs.Layout.{maps_of, rooms_of, KeepGroups}
use Rattle.registry.specs.Spending.{nowhere, SpendsRows}
use Rattle.registry.proofs.LeavingLemmas.{IsLeft}
use Rattle.registry.proofs.PackingLemmas.{IsPoppedFrom, holders_from}
use Rattle.registry.proofs.parts.leaving.leave_all.Given as goal

abbrev pub invariant-loop-left : goal.invariant-loop-left
invariant-loop-left g l = record {
  left : IsLeft l.entity l.left l.fn.pools.items l.pools.items l.fn.signals.items l.signals.items;
  groups : KeepGroups l.fn.groups l.groups l.pools.items;
  popped : IsPoppedFrom l.fn.groups.decls (maps_of l.fn.pools.items) l.entity l.left (packed_of l.fn.pools.items) (packed_of l.pools.items);
  steps : l.steps ≤ l.fn.steps + sum_by (row_steps l.fn.groups.decls) (holders_from (maps_of l.fn.pools.items) l.entity l.left);
  spends : SpendsRows nowhere (rooms_of l.fn.pools.items) (rooms_of l.pools.items) (packed_of l.fn.pools.items) (packed_of l.pools.items) l.fn.signals.items l.signals.items;
}

abbrev pub decreases-loop-left : goal.decreases-loop-left
decreases-loop-left g l = l.left
