use Rattle.std.proofs.Common.{◌≡◌, take}
use Rattle.registry.specs.Layout.{maps_of}
use Rattle.registry.proofs.parts.saving.save_pools.Given as goal

abbrev pub invariant-loop-storage : goal.invariant-loop-storage
invariant-loop-storage l = l.saved.items ≡ maps_of (take l.storage-index l.pools)
