use Rattle.std.proofs.Common.{ℕ, take, drop}
use Rattle.registry.specs.Applying.{progress_in}
use Rattle.registry.specs.Layout.{held_of, IsKept}
use Rattle.registry.specs.Spending.{HasRoomAlso}
use Rattle.registry.proofs.ApplyLemmas.{StandsAt}
use Rattle.registry.proofs.parts.orders.apply.Given as goal

abbrev pub invariant-loop-order : goal.invariant-loop-order
invariant-loop-order g l = record {
  kept : IsKept l.parts;
  stands : StandsAt (held_of l.fn.parts) (held_of l.parts) (progress_in (held_of l.fn.parts) (take l.order-index l.orders)) l.last l.applied;
  left : (adds updates : ℕ → ℕ) (spawns : ℕ) → HasRoomAlso adds updates spawns l.orders (held_of l.fn.parts) → HasRoomAlso adds updates spawns (drop l.order-index l.orders) (held_of l.parts);
}
