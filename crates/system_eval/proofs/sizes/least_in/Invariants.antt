use Rattle.std.proofs.Common.{◌≡◌, take}
use Rattle.system_eval.specs.Runs.{least_of, sizes_at}
use Rattle.system_eval.proofs.sizes.least_in.Given as goal

abbrev pub invariant-loop-pool : goal.invariant-loop-pool
invariant-loop-pool l = l.least ≡ least_of l.first (sizes_at l.sizes (take l.pool-index l.pools))
