use Rattle.world_top.proofs.LawLemmas.{output_is_one, bad_input_is_one, no_output_is_bad, no_output_is_past, no_bad_input_is_past}
use Rattle.world_top.proofs.output_laws.one_output.Goals as goal

pub returns : goal.returns
returns c = record {
  output = output_is_one;
  at = bad_input_is_one;
  none = no_output_is_bad;
  within = no_output_is_past;
  admitted = no_bad_input_is_past;
}
