use Rattle.std.proofs.Common.{◌≡◌, length, get_or, sym, ap, ◌∙◌}
use Rattle.system_eval.specs.Lanes.{marked_count}
use Rattle.system_eval.proofs.ShallowLemmas.{ready_apart, ready_at}
use Rattle.system_eval.proofs.DoingLemmas.{does_more, few_more, room_more}
use Rattle.system_eval.proofs.body.statements.do_statements.Goals as goal

pub do_statement-requires-clause-apart : goal.do_statement-requires-clause-apart
do_statement-requires-clause-apart c = ready_apart c.args.scene.now.access c.args.statements.now c.requires.ready

pub do_statement-requires-clause-ready : goal.do_statement-requires-clause-ready
do_statement-requires-clause-ready c =
    let tokens = c.as_slice.result.now in
    let n = c.loop-statement.statement-index in
    let is : tokens ≡ get_or c.args.statements.now n tokens = c.as_slice.ensures ∙ c.statement-item.is ∙ ap (get_or c.args.statements.now n) (sym c.as_slice.ensures) in
    ready_at c.args.scene.now.access c.args.statements.now c.requires.ready n tokens c.loop-statement-test.true is

pub do_statement-requires-clause-room : goal.do_statement-requires-clause-room
do_statement-requires-clause-room c = λ command.
    let tokens = c.as_slice.result.now in
    let n = c.loop-statement.statement-index in
    let is : tokens ≡ get_or c.args.statements.now n tokens = c.as_slice.ensures ∙ c.statement-item.is ∙ ap (get_or c.args.statements.now n) (sym c.as_slice.ensures) in
    room_more c.args.scene.now c.args.statements.now n tokens c.loop-statement-test.true is (marked_count c.args.scene.now.marks) c.args.out.now.spare c.loop-statement.out.spare (length c.loop-statement.out.list) (length c.args.out.now.list)
    c.requires.room c.loop-statement.invariant.spare c.loop-statement.invariant.few command

pub loop-statement-preserved : goal.loop-statement-preserved
loop-statement-preserved c =
    let tokens = c.as_slice.result.now in
    let n = c.loop-statement.statement-index in
    let is : tokens ≡ get_or c.args.statements.now n tokens = c.as_slice.ensures ∙ c.statement-item.is ∙ ap (get_or c.args.statements.now n) (sym c.as_slice.ensures) in
    record {
      does = does_more c.args.scene.now c.args.statements.now n tokens c.loop-statement-test.true is _ _ _ c.loop-statement.invariant.does c.do_statement.ensures.does;
      spare = c.do_statement.ensures.spare ∙ c.loop-statement.invariant.spare;
      few = few_more c.args.scene.now c.args.statements.now n tokens c.loop-statement-test.true is (marked_count c.args.scene.now.marks) (length c.do_statement.new.out.list) (length c.loop-statement.out.list) (length c.args.out.now.list)
          c.loop-statement.invariant.few c.do_statement.ensures.few;
    }
