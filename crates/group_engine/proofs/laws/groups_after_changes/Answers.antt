use Rattle.group_engine.proofs.ChangeLemmas.{values_changed, order_changed}
use Rattle.group_engine.proofs.ClearLemmas.{emptied}
use Rattle.group_engine.proofs.UseLemmas.{appended, erased}
use Rattle.group_engine.proofs.laws.groups_after_changes.Goals as goal

pub returns : goal.returns
returns g c = record { appended = appended; erased = erased; values = values_changed; order = order_changed; emptied = emptied }
