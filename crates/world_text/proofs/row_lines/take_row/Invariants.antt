use Rattle.world_text.proofs.TakingLemmas.{AreTaken}
use Rattle.world_text.proofs.row_lines.take_row.Given as goal

abbrev pub invariant-loop-at : goal.invariant-loop-at
invariant-loop-at l = AreTaken l.profile l.kinds l.text l.at l.row.f l.rest
