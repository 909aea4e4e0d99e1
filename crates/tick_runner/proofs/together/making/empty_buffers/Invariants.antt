use Rattle.std.proofs.Common.{◌≡◌, length}
use Rattle.tick_runner.proofs.together.making.empty_buffers.Given as goal

abbrev pub invariant-loop-place : goal.invariant-loop-place
invariant-loop-place l = length l.buffers.items ≡ l._place
