use Rattle.world_text.proofs.PrintingLemmas.{front_kept}
use Rattle.world_text.proofs.group_printing.push_names.Goals as goal

pub returns-in_err-push_name-clause-front : goal.returns-in_err-push_name-clause-front
returns-in_err-push_name-clause-front c = front_kept c.args.out.now.items _ c.loop-pool.out.items c.push_name.new.out.items c.loop-pool.invariant c.in_err-push_name.ensures.front
