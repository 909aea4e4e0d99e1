use Rattle.std.proofs.Common.{ap, ◌∙◌}
use Rattle.std.specs.FinSet as set
use Rattle.access_graph.specs.Systems.{systems_of}
use Rattle.access_graph.proofs.SystemLemmas.{systems_of-or}
use Rattle.access_graph.proofs.systems.Systems.union.Goals as goal

pub returns : goal.returns
returns c =
    systems_of-or c.self.inside.bits c.other.inside.bits
    ∙ ap (λ s. set.union s (systems_of c.other.inside.bits)) c.self.view_is ∙ ap (set.union c.args.self.now) c.other.view_is
