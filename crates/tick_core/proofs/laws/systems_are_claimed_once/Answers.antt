use Rattle.tick_core.proofs.ScheduleLemmas.{at_most_once, once}
use Rattle.tick_core.proofs.laws.systems_are_claimed_once.Goals as goal

pub returns-clause-most : goal.returns-clause-most
returns-clause-most c = at_most_once

pub returns-clause-once : goal.returns-clause-once
returns-clause-once c = once
