use Rattle.entity_id.proofs.MapLemmas.{ascending-put, ascending-remove}
use Rattle.entity_id.proofs.PackedMapLemmas.{ascending-map_of}
use Rattle.storage.proofs.laws.maps_ascend.Goals as goal

pub returns : goal.returns
returns g c = record { made = ascending-map_of; put = ascending-put; removed = ascending-remove }
