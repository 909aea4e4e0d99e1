use Rattle.std.proofs.Common.{◌≡◌, take}
use Rattle.system_api.specs.Running.{sizes_of}
use Rattle.registry.specs.Layout.{maps_of}
use Rattle.tick_runner.proofs.preparing.sizes.Given as goal

abbrev pub invariant-loop-pool : goal.invariant-loop-pool
invariant-loop-pool l = l.list.items ≡ sizes_of (maps_of (take l.pool-index l.pools))
