use Rattle.world_model.proofs.OrderLaw.{orders_lawful, orders_same, orders_groups}
use Rattle.world_model.proofs.tick_laws.orders_keep_worlds_lawful.Goals as goal

pub returns-clause-lawful : goal.returns-clause-lawful
returns-clause-lawful c = orders_lawful

pub returns-clause-profile : goal.returns-clause-profile
returns-clause-profile c limit p orders = (orders_same limit p orders).profile

pub returns-clause-components : goal.returns-clause-components
returns-clause-components c limit p orders = (orders_same limit p orders).decls

pub returns-clause-ticks : goal.returns-clause-ticks
returns-clause-ticks c limit p orders = (orders_same limit p orders).tick

pub returns-clause-groups : goal.returns-clause-groups
returns-clause-groups c = orders_groups
