use Rattle.std.proofs.Common.{◌≡◌, ◌+◌, ◌-◌, ◌*◌, ◌≤◌, length}
use Rattle.row_lang.specs.Systems.{command_count}
use Rattle.system_eval.specs.Walks.{walked_in, Rewrites, Gives}
use Rattle.system_eval.proofs.walk.walk.Given as goal

abbrev pub invariant-loop-from : goal.invariant-loop-from
invariant-loop-from l = record {
  many_places : length l.places ≡ 16;
  many_columns : length l.columns ≡ 16;
  rewrites : Rewrites l.task (walked_in (length l.task.system.access.read) l.initial.lent l.at l.end) 0 l.from l.initial.lent l.lent;
  gives : Gives l.task (walked_in (length l.task.system.access.read) l.initial.lent l.at l.end) 0 l.from l.initial.lent l.initial.out.list l.out.list;
  spare : l.out.spare + length l.out.list ≡ l.initial.out.spare + length l.initial.out.list;
  room : command_count l.task.system.statements * l.end ≤ l.out.spare + command_count l.task.system.statements * l.from;
}

abbrev pub decreases-loop-from : goal.decreases-loop-from
decreases-loop-from l = l.end - l.from
