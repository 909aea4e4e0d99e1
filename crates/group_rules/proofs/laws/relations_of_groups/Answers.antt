use Rattle.std.proofs.Common.{subst}
use Rattle.group_rules.specs.Families.{Stands}
use Rattle.group_rules.proofs.RelationLemmas.{mirror, holds, only}
use Rattle.group_rules.proofs.laws.relations_of_groups.Goals as goal

pub returns-clause-one : goal.returns-clause-one
returns-clause-one c = λ a b relation owns_a owns_b. (λ is. subst (λ r. Stands r a b) is (holds a b), only a b owns_a owns_b relation)

pub returns-clause-mirror : goal.returns-clause-mirror
returns-clause-mirror c = mirror
