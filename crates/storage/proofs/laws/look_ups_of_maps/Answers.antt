use Rattle.entity_id.proofs.PackedMapLemmas.{get-map_of}
use Rattle.entity_id.proofs.MapChangeLemmas.{has_index-map_of}
use Rattle.storage.proofs.laws.look_ups_of_maps.Goals as goal

pub returns : goal.returns
returns g c = record { values = get-map_of; indices = has_index-map_of }
