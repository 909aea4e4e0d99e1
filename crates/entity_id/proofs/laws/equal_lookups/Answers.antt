use Rattle.entity_id.proofs.MapLemmas.{equal_lookups}
use Rattle.entity_id.proofs.laws.equal_lookups.Goals as goal

pub returns : goal.returns
returns g c = equal_lookups
