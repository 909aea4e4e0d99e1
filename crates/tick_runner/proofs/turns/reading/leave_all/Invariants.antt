use Rattle.arrayvec.specs.ArrayVec.{array_vec_len}
use Rattle.tick_runner.proofs.turns.reading.leave_all.Given as goal

abbrev pub decreases-loop-turn : goal.decreases-loop-turn
decreases-loop-turn g l = array_vec_len l.turns
