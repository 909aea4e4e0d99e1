use Rattle.world_top.proofs.TickedLemmas.{ticked-add, ran_in_parts}
use Rattle.world_top.proofs.output_laws.runs_in_parts.Goals as goal

pub returns : goal.returns
returns c = record {
  documents = ticked-add;
  outputs = λ first second x y z input between bytes ran. ran_in_parts first second input between bytes ran;
  workers = λ ticks x y input bytes ran. ran;
}
