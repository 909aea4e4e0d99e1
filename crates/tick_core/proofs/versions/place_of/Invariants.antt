use Rattle.std.proofs.Common.{◌≡◌, ℕ, ◌<◌, get_or}
use Rattle.tick_core.specs.declared.versions.PoolVersion.{PoolVersion}
use Rattle.tick_core.proofs.versions.place_of.Given as goal

abbrev pub invariant-loop-at : goal.invariant-loop-at
invariant-loop-at l = (k : ℕ) (at : PoolVersion) → k < l.at → (get_or l.versions k at).pool ≡ l.pool → ⊥
