use Rattle.world_top.proofs.LawLemmas.{past_ending}
use Rattle.world_top.proofs.laws.past_inputs_are_told.Goals as goal

pub returns : goal.returns
returns g c = λ verb input s old new told_before told_after faults_before faults_after number e is told short past reads.
    past_ending c.args.words.now s _ _ _ _ faults_before faults_after number e verb is input told short past reads
