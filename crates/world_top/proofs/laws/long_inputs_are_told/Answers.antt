use Rattle.world_top.proofs.LawLemmas.{long_ending}
use Rattle.world_top.proofs.laws.long_inputs_are_told.Goals as goal

pub returns : goal.returns
returns g c = λ verb input s old new told_before told_after faults_before faults_after number e is told reading long reads.
    long_ending c.args.words.now s _ _ _ _ faults_before faults_after number e verb is input told reading long reads
