use Rattle.world_top.proofs.LawLemmas.{bad_ending}
use Rattle.world_top.proofs.laws.bad_inputs_are_told.Goals as goal

pub returns : goal.returns
returns g c = λ verb input at s old new told_before told_after faults_before faults_after number e is told short bad reads.
    bad_ending c.args.words.now s _ _ _ _ faults_before faults_after number e verb is input at told short bad reads
