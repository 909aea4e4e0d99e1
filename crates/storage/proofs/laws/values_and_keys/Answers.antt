use Rattle.entity_id.proofs.MapChangeLemmas.{keys-with_value, map_of-with_contained}
use Rattle.storage.proofs.PairLemmas.{keys-with_values}
use Rattle.storage.proofs.laws.values_and_keys.Goals as goal

pub returns : goal.returns
returns g c = record { one = keys-with_value; all = keys-with_values; put = map_of-with_contained }
