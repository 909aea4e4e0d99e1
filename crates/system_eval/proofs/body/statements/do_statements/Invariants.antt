use Rattle.std.proofs.Common.{◌≡◌, ◌+◌, ◌*◌, ◌≤◌, length, take}
use Rattle.row_lang.specs.Bodies.{after_body}
use Rattle.row_lang.specs.Systems.{command_count}
use Rattle.system_eval.specs.Doings.{Does}
use Rattle.system_eval.specs.Lanes.{marked_count, setting_at}
use Rattle.system_eval.proofs.body.statements.do_statements.Given as goal

abbrev pub invariant-loop-statement : goal.invariant-loop-statement
invariant-loop-statement l = record {
  does : Does l.scene (λ lane. after_body (setting_at l.scene lane) (take l.statement-index l.statements))
      (record { columns = l.initial.columns; spawned = l.initial.spawned; list = l.initial.out.list }) (record { columns = l.columns; spawned = l.spawned; list = l.out.list });
  spare : l.out.spare + length l.out.list ≡ l.initial.out.spare + length l.initial.out.list;
  few : length l.out.list ≤ length l.initial.out.list + command_count (take l.statement-index l.statements) * marked_count l.scene.marks;
}
