use Rattle.std.proofs.Common.{◌≡◌, map, take}
use Rattle.world_model.specs.declared.access.Access.{Access}
use Rattle.world_model.specs.Frames.{system_pools}
use Rattle.tick_core.specs.Layout.{pools_of, state_of}
use Rattle.tick_core.specs.States.{idle}
use Rattle.tick_core.proofs.machine.idle_systems.Given as goal

abbrev pub invariant-loop-access : goal.invariant-loop-access
invariant-loop-access l = record {
  states : map state_of l.systems.items ≡ map (λ (access : Access). idle) (take l.access-index l.accesses);
  pools : map pools_of l.systems.items ≡ map system_pools (take l.access-index l.accesses);
}
