use Rattle.registry.proofs.LendingLemmas.{lawful_again}
use Rattle.registry.proofs.laws.worlds_with_other_rows_are_lawful.Goals as goal

pub returns : goal.returns
returns c = lawful_again
