use Rattle.system_api.proofs.RewritingLemmas.{map-rewritten}
use Rattle.system_api.proofs.laws.rows_are_rewritten.Goals as goal

pub returns : goal.returns
returns g c = λ change pairs. map-rewritten change pairs
