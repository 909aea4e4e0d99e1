use Rattle.std.proofs.Common.{◌≡◌, map, take}
use Rattle.world_top.proofs.watching.entities_of.Given as goal

abbrev pub invariant-loop-event : goal.invariant-loop-event
invariant-loop-event l = l.entities.items ≡ map (λ e. e.entity) (take l.event-index l.events)
