use Rattle.std.proofs.Common.{◌≡◌, drop}
use Rattle.tick_core.proofs.VersionLemmas.{found}
use Rattle.tick_core.proofs.versions.version_of.Given as goal

abbrev pub invariant-loop-at : goal.invariant-loop-at
invariant-loop-at l = found l.versions l.pool ≡ found (drop l.at-index l.versions) l.pool
