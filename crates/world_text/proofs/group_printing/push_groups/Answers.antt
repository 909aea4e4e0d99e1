use Rattle.world_text.proofs.PrintingLemmas.{front_kept}
use Rattle.world_text.proofs.group_printing.push_groups.Goals as goal

pub returns-in_err-push_group-clause-front : goal.returns-in_err-push_group-clause-front
returns-in_err-push_group-clause-front c = front_kept c.args.out.now.items _ c.loop-group.out.items c.push_group.new.out.items c.loop-group.invariant c.in_err-push_group.ensures.front
