use Rattle.std.proofs.Common.{◌≡◌, take, replicate}
use Rattle.registry.specs.Held.{no_room}
use Rattle.registry.specs.Layout.{pairs_of, rooms_of}
use Rattle.registry.proofs.parts.loading.load_counted.Given as goal

abbrev pub invariant-loop-rows : goal.invariant-loop-rows
invariant-loop-rows g l = record {
  rows : pairs_of l.loaded.items ≡ take l.rows-index l.pools;
  spare : rooms_of l.loaded.items ≡ replicate l.rows-index no_room;
}
