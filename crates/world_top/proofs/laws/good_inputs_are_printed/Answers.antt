use Rattle.world_top.proofs.LawLemmas.{good_ending}
use Rattle.world_top.proofs.laws.good_inputs_are_printed.Goals as goal

pub returns : goal.returns
returns g c = λ verb input bytes s old new told_before told_after faults_before faults_after number e is told short o reads writes.
    good_ending c.args.words.now s _ _ _ _ faults_before faults_after number e verb is input bytes told short o reads writes
