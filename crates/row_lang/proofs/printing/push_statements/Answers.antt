use Rattle.row_lang.proofs.PrintingLemmas.{front_kept}
use Rattle.row_lang.proofs.printing.push_statements.Goals as goal

pub returns-in_err-push_statement-clause-front : goal.returns-in_err-push_statement-clause-front
returns-in_err-push_statement-clause-front c = front_kept c.args.out.now.items _ c.loop-statement.out.items c.push_statement.new.out.items c.loop-statement.invariant c.in_err-push_statement.ensures.front
