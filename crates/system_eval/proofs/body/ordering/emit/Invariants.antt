use Rattle.std.proofs.Common.{◌≡◌, ◌+◌, ◌≤◌, ◌++◌, length, take}
use Rattle.system_eval.specs.Doings.{emitted, orders_in}
use Rattle.system_eval.specs.Lanes.{marked_count}
use Rattle.system_eval.proofs.body.ordering.emit.Given as goal

abbrev pub invariant-loop-lane : goal.invariant-loop-lane
invariant-loop-lane l = record {
  list : l.out.list ≡ l.initial.out.list ++ emitted l.scene.entities (orders_in l.scene l.word l.test l.stack l.spawned) l.lane;
  spare : l.out.spare + length l.out.list ≡ l.initial.out.spare + length l.initial.out.list;
  few : length l.out.list ≤ length l.initial.out.list + marked_count (take l.lane l.scene.marks);
}
