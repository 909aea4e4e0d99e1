use Rattle.pool_slots.proofs.TagLemmas.{own_turn_at}
use Rattle.pool_slots.proofs.slots.Slots.try_take_out.Goals as goal

pub returns-clause-place : goal.returns-clause-place
returns-clause-place g c = own_turn_at c.args.self.now c.args.pool _ c.take-2.result.tag c.of.result c.take-2.ensures.tag c.of.ensures
