use Rattle.world_model.proofs.TickLemmas.{lists_lawful, tick_lawful}
use Rattle.world_model.proofs.tick_laws.ticks_keep_worlds_lawful.Goals as goal

pub returns-clause-orders : goal.returns-clause-orders
returns-clause-orders c = lists_lawful

pub returns-clause-tick : goal.returns-clause-tick
returns-clause-tick c = tick_lawful
