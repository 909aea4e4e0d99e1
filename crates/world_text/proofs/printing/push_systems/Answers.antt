use Rattle.world_text.proofs.PrintingLemmas.{front_kept, systems_printed_more}
use Rattle.world_text.proofs.printing.push_systems.Goals as goal

pub returns-in_err-push_system-clause-front : goal.returns-in_err-push_system-clause-front
returns-in_err-push_system-clause-front c = front_kept c.args.out.now.items _ c.loop-system.out.items c.push_system.new.out.items c.loop-system.invariant c.in_err-push_system.ensures.front

pub loop-system-preserved : goal.loop-system-preserved
loop-system-preserved c =
    systems_printed_more c.args.decls.now c.args.systems.now c.loop-system.system-index c.system-item.result c.args.out.now.items c.loop-system.out.items c.push_system.new.out.items c.loop-system-test.true c.system-item.is c.loop-system.invariant c.in_ok-push_system.ensures.ok
