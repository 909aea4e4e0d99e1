use Rattle.std.proofs.Common.{◌≡◌, [], replicate}
use Rattle.registry.specs.Held.{no_room}
use Rattle.registry.specs.Layout.{pairs_of, rooms_of}
use Rattle.registry.proofs.parts.making.empty_pools.Given as goal

abbrev pub invariant-loop-made : goal.invariant-loop-made
invariant-loop-made l = record {
  rows : pairs_of l.pools.items ≡ replicate l._made [];
  spare : rooms_of l.pools.items ≡ replicate l._made no_room;
}
