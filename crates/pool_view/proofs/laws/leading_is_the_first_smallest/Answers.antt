use Rattle.pool_view.proofs.LeadingLemmas.{leading_smallest, leading_first}
use Rattle.pool_view.proofs.MatchLemmas.{leading_stands}
use Rattle.pool_view.proofs.laws.leading_is_the_first_smallest.Goals as goal

pub returns-clause-within : goal.returns-clause-within
returns-clause-within c = leading_stands

pub returns-clause-smallest : goal.returns-clause-smallest
returns-clause-smallest c = leading_smallest

pub returns-clause-first : goal.returns-clause-first
returns-clause-first c = leading_first
