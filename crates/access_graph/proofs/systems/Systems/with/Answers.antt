use Rattle.std.proofs.Common.{ap, ◌∙◌, arith}
use Rattle.std.specs.FinSet as set
use Rattle.access_graph.proofs.SystemLemmas.{systems_of-set}
use Rattle.access_graph.proofs.systems.Systems.with.Goals as goal

pub returns : goal.returns
returns c =
    systems_of-set c.self.inside.bits c.args.system (omega arith) ∙ ap (λ s. set.insert s c.args.system) c.self.view_is
