use Rattle.world_model.proofs.OrderLaw.{orders-append, orders_counted}
use Rattle.world_model.proofs.tick_laws.orders_in_parts.Goals as goal

pub returns-clause-parts : goal.returns-clause-parts
returns-clause-parts c = orders-append

pub returns-clause-counted : goal.returns-clause-counted
returns-clause-counted c = orders_counted
