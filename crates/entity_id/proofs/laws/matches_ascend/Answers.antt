use Rattle.entity_id.proofs.MatchLemmas.{ascending-matches, distinct-matches}
use Rattle.entity_id.proofs.laws.matches_ascend.Goals as goal

pub returns-clause-ascending : goal.returns-clause-ascending
returns-clause-ascending c = ascending-matches

pub returns-clause-each_once : goal.returns-clause-each_once
returns-clause-each_once c = distinct-matches
