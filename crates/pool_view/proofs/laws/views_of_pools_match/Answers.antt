use Rattle.pool_view.proofs.MatchLemmas.{viewed_matches, walk_matches}
use Rattle.pool_view.proofs.laws.views_of_pools_match.Goals as goal

pub returns-clause-contained : goal.returns-clause-contained
returns-clause-contained c = viewed_matches

pub returns-clause-walked : goal.returns-clause-walked
returns-clause-walked c = walk_matches
