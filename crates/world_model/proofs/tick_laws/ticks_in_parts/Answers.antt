use Rattle.world_model.proofs.TickLemmas.{ticks-add, ticks_number}
use Rattle.world_model.proofs.tick_laws.ticks_in_parts.Goals as goal

pub returns-clause-parts : goal.returns-clause-parts
returns-clause-parts c = ticks-add

pub returns-clause-counted : goal.returns-clause-counted
returns-clause-counted c = ticks_number
