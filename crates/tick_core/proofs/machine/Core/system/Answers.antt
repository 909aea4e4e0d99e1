use Rattle.std.proofs.Common.{length, ap, ◌<◌, ◌∙◌, arith}
use Rattle.std.proofs.lemmas.List.{length-map}
use Rattle.world_model.specs.Frames.{system_pools}
use Rattle.access_graph.specs.Conflicts.{access_at}
use Rattle.tick_core.specs.Layout.{state_of}
use Rattle.tick_core.specs.States.{CoreState}
use Rattle.tick_core.proofs.KeepingLemmas.{pools-at}
use Rattle.tick_core.proofs.machine.Core.system.Goals as goal

pub returns-clause-pools : goal.returns-clause-pools
returns-clause-pools c =
    let systems = c.self.inside.systems.items in
    let low : c.args.system < length systems =
    let same = ap (λ (s : CoreState). length s.systems) c.self.view_is in let counted = length-map systems state_of in omega arith
    in
    pools-at c.self.inside.accesses systems c.args.system c.index.result.now c.self.invariant.named c.index.ensures low
    ∙ ap (λ (s : CoreState). system_pools (access_at s.accesses c.args.system)) c.self.view_is
