use Rattle.world_top.specs.Running.{effects_of}
use Rattle.world_top.proofs.LiveLemmas.{map_if}
use Rattle.world_top.proofs.RunningLemmas.{ticked}
use Rattle.world_top.proofs.sharing.run_tick_by.Goals as goal

pub returns : goal.returns
returns g c = map_if c.tick_shared.result (λ new ticks. ticked c.args.registry new (effects_of c.args.systems.now) c.args.tick ticks) c.tick_shared.ensures
