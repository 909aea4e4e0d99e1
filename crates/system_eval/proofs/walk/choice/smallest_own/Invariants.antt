use Rattle.std.proofs.Common.{◌≡◌, ℕ, ◌+◌, ◌<◌, ◌≤◌, length}
use Rattle.system_api.specs.Registers.{pool_at}
use Rattle.system_eval.specs.Walks.{rows_in, own_lent}
use Rattle.system_eval.proofs.walk.choice.smallest_own.Given as goal

abbrev pub invariant-loop-at : goal.invariant-loop-at
invariant-loop-at l = record {
  there : l.best.at < l.reads + length l.lent.writes;
  end_is : l.best.end ≡ length (pool_at (own_lent l.reads l.lent) l.best.at).storage.pairs;
  least : (k : ℕ) → k < l.at → l.best.end ≤ length (rows_in (pool_at (own_lent l.reads l.lent) k));
}
