use Rattle.world_text.proofs.PrintingLemmas.{front_kept}
use Rattle.world_text.proofs.watch_replies.push_events.Goals as goal

pub returns-in_err-push_event-clause-front : goal.returns-in_err-push_event-clause-front
returns-in_err-push_event-clause-front c = front_kept c.args.out.now.items _ c.loop-entity.out.items c.push_event.new.out.items c.loop-entity.invariant c.in_err-push_event.ensures.front
