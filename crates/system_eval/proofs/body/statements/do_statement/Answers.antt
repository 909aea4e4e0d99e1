use Rattle.std.proofs.Common.{length, sym, ap, ◌∙◌, subst}
use Rattle.row_lang.specs.Bodies.{after_statement, deed_of}
use Rattle.row_lang.specs.Systems.{is_command}
use Rattle.system_eval.specs.Doings.{deed_in, done_in, is_set_word}
use Rattle.system_eval.specs.Lanes.{setting_at, marked_count}
use Rattle.system_eval.specs.Stacks.{int_at, operands_at, IsShallow}
use Rattle.system_eval.proofs.ShallowLemmas.{ready_shallow, ready_commands, few_either}
use Rattle.system_eval.proofs.DoingLemmas.{does_same, statement_done}
use Rattle.system_eval.proofs.body.statements.do_statement.Goals as goal

pub read_tokens-requires-clause-shallow : goal.read_tokens-requires-clause-shallow
read_tokens-requires-clause-shallow c = subst IsShallow (sym c.untested-rest.ensures) (ready_shallow c.args.scene.now.access c.args.tokens.now c.requires.ready)

pub do_deed-requires-clause-room : goal.do_deed-requires-clause-room
do_deed-requires-clause-room c = λ other.
    c.requires.room (ready_commands c.args.scene.now.access c.args.tokens.now (setting_at c.args.scene.now 0) c.in-Some.word c.requires.ready (ap deed_of (sym c.untested-rest.ensures) ∙ sym c.in-Some.ensures) other)

pub returns-in-Some-clause-does : goal.returns-in-Some-clause-does
returns-in-Some-clause-does c =
    does_same c.args.scene.now (deed_in c.args.scene.now c.in-Some.word c.take_test-test.result c.take_test-test.new.stack) (λ lane. after_statement (setting_at c.args.scene.now lane) c.args.tokens.now) _ _
    (λ lane h orders. statement_done (setting_at c.args.scene.now lane) c.args.tokens.now c.untested-rest.result.now c.has_test.result c.in-Some.word
    (done_in c.args.scene.now (record { columns = c.args.columns.now; spawned = c.args.spawned.now; list = c.args.out.now.list }) orders lane)
    (int_at c.take_test-test.result lane) (operands_at c.take_test-test.new.stack lane) (operands_at c.read_tokens.new.stack lane)
    c.untested-rest.ensures c.has_test.ensures (sym c.in-Some.ensures) (c.read_tokens.ensures lane h) (c.take_test-test.ensures.test lane h) (c.take_test-test.ensures.operands lane))
    c.do_deed.ensures.does

pub returns-in-Some-clause-few : goal.returns-in-Some-clause-few
returns-in-Some-clause-few c =
    few_either (is_set_word c.in-Some.word) (is_command c.args.tokens.now) (length c.do_deed.new.out.list) (length c.args.out.now.list) (marked_count c.args.scene.now.marks)
    (λ other. ready_commands c.args.scene.now.access c.args.tokens.now (setting_at c.args.scene.now 0) c.in-Some.word c.requires.ready (ap deed_of (sym c.untested-rest.ensures) ∙ sym c.in-Some.ensures) other)
    c.do_deed.ensures.few
