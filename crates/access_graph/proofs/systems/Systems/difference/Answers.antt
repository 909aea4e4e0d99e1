use Rattle.std.proofs.Common.{ap, ◌∙◌, arith}
use Rattle.std.specs.FinSet as set
use Rattle.access_graph.specs.Systems.{systems_of}
use Rattle.access_graph.proofs.SystemLemmas.{systems_of-and_not}
use Rattle.access_graph.proofs.systems.Systems.difference.Goals as goal

pub returns : goal.returns
returns c =
    systems_of-and_not c.self.inside.bits c.other.inside.bits (omega arith)
    ∙ ap (λ s. set.difference s (systems_of c.other.inside.bits)) c.self.view_is ∙ ap (set.difference c.args.self.now) c.other.view_is
