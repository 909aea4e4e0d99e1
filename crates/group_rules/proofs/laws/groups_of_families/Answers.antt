use Rattle.std.proofs.Common.{◌≡◌, true}
use Rattle.entity_id.proofs.ListLemmas.{all_at}
use Rattle.world_model.specs.Groups.{is_well_formed}
use Rattle.group_rules.proofs.FamilyLemmas.{stand_beside}
use Rattle.group_rules.proofs.laws.groups_of_families.Goals as goal

pub returns-clause-well_formed : goal.returns-clause-well_formed
returns-clause-well_formed c = λ groups group decl h at. all_at (λ each. is_well_formed each ≡ true) groups group decl h.well_formed at

pub returns-clause-beside : goal.returns-clause-beside
returns-clause-beside c = stand_beside
