use Rattle.std.proofs.Common.{refl}
use Rattle.world_top.proofs.LawLemmas.{printed_output}
use Rattle.world_top.proofs.laws.success_prints_the_output.Goals as goal

pub returns : goal.returns
returns g c = λ verb input bytes s old new told_before told_after faults_before faults_after e is told o.
    printed_output c.args.words.now s _ _ _ _ faults_before faults_after 0 e verb is input bytes refl told o
