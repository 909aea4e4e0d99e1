use Rattle.std.proofs.Common.{◌≡◌, ◌-◌, ◌++◌, List, drop, length}
use Rattle.entity_id.specs.Identifiers.{p20_12}
use Rattle.world_text.specs.Playing.{Watching, standing_lines}
use Rattle.world_top.specs.Watched.{AreWatched, left_upto}
use Rattle.world_top.proofs.watching.tell_standing.Given as goal

abbrev pub invariant-loop-at : goal.invariant-loop-at
invariant-loop-at l = record {
  watched : (its : List Watching) → AreWatched l.fn.registry l.fn.watches.items its → AreWatched l.registry l.watches.items (left_upto l.at its);
  told : (its : List Watching) → AreWatched l.fn.registry l.fn.watches.items its → l.out.items ++ standing_lines p20_12 l.fn.decls l.at (drop l.at its) ≡ l.fn.out.items ++ standing_lines p20_12 l.fn.decls 0 its;
  world : l.registry.world ≡ l.fn.registry.world;
  length : length l.watches.items ≡ length l.fn.watches.items;
}

abbrev pub decreases-loop-at : goal.decreases-loop-at
decreases-loop-at l = length l.watches.items - l.at
