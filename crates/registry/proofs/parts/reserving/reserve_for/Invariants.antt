use Rattle.std.proofs.Common.{◌≡◌, ℕ, ◌<◌, ◌≤◌, ◌+◌, length}
use Rattle.std.specs.Prelude.{slice_index}
use Rattle.registry.specs.Held.{AsBefore}
use Rattle.registry.specs.Layout.{held_of, IsKept}
use Rattle.registry.specs.Rooms.{HasRoomInPool}
use Rattle.registry.specs.Spending.{nowhere, Spends}
use Rattle.registry.proofs.parts.reserving.reserve_for.Given as goal

abbrev pub invariant-loop-pool : goal.invariant-loop-pool
invariant-loop-pool g l = record {
  kept : IsKept l.parts;
  same : AsBefore (held_of l.fn.parts) (held_of l.parts);
  decls : l.parts.decls ≡ l.fn.parts.decls;
  spends : Spends nowhere nowhere (held_of l.initial.parts) (held_of l.parts);
  whole : Spends nowhere nowhere (held_of l.fn.parts) (held_of l.parts);
  rooms : (pool : ℕ) → pool < l.pool → HasRoomInPool (held_of l.parts) l.reach (slice_index l.adds pool) (slice_index l.updates pool) pool;
}
