use Rattle.pool_view.specs.ViewedSets.{is_viewed, leading_set}
use Rattle.pool_view.proofs.WalkLemmas.{distinct_walk}
use Rattle.pool_view.proofs.MatchLemmas.{walk_contains}
use Rattle.pool_view.proofs.laws.walks_are_exact.Goals as goal

pub returns-clause-exact : goal.returns-clause-exact
returns-clause-exact c = walk_contains

pub returns-clause-each_once : goal.returns-clause-each_once
returns-clause-each_once c = λ view distinct. distinct_walk (is_viewed view) (leading_set view.included) distinct
