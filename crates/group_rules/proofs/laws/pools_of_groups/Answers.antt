use Rattle.world_model.specs.Groups.{group_pools}
use Rattle.group_rules.proofs.DistinctLemmas.{distinct_places}
use Rattle.group_rules.proofs.FamilyLemmas.{formed, owned_once}
use Rattle.group_rules.proofs.laws.pools_of_groups.Goals as goal

pub returns-clause-owns : goal.returns-clause-owns
returns-clause-owns c = λ decl h. (formed decl h).owns

pub returns-clause-few : goal.returns-clause-few
returns-clause-few c = λ decl h. (formed decl h).few

pub returns-clause-once : goal.returns-clause-once
returns-clause-once c = λ decl h. distinct_places (group_pools decl) (formed decl h).once

pub returns-clause-owned_once : goal.returns-clause-owned_once
returns-clause-owned_once c = owned_once
