use Rattle.entity_id.proofs.MatchLemmas.{any-matches}
use Rattle.entity_id.proofs.laws.matches_are_exact.Goals as goal

pub returns : goal.returns
returns c = any-matches
