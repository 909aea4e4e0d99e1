use Rattle.world_text.proofs.PrintingLemmas.{front_kept}
use Rattle.world_text.proofs.printing.push_decls.Goals as goal

pub returns-in_err-push_decl-clause-front : goal.returns-in_err-push_decl-clause-front
returns-in_err-push_decl-clause-front c = front_kept c.args.out.now.items _ c.loop-decl.out.items c.push_decl.new.out.items c.loop-decl.invariant c.in_err-push_decl.ensures.front
