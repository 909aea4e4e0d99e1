use Rattle.world_model.proofs.GroupLemmas.{packed_is_lawful, lawful_is_packed}
use Rattle.world_model.proofs.group_laws.packed_groups.Goals as goal

pub returns-clause-lawful : goal.returns-clause-lawful
returns-clause-lawful c = packed_is_lawful

pub returns-clause-packed : goal.returns-clause-packed
returns-clause-packed c = lawful_is_packed
