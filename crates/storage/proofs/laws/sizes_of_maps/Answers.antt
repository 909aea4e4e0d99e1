use Rattle.entity_id.proofs.MapChangeLemmas.{length-map_of}
use Rattle.storage.proofs.laws.sizes_of_maps.Goals as goal

pub returns : goal.returns
returns g c = length-map_of
