use Rattle.entity_id.proofs.MapLemmas.{get-put_same, get-put_version, get-put_other, get-remove_same, get-remove_other}
use Rattle.storage.proofs.laws.look_ups_after_changes.Goals as goal

pub returns : goal.returns
returns g c = record { put = get-put_same; version = get-put_version; beside = get-put_other; removed = get-remove_same; others = get-remove_other }
