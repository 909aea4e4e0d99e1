use Rattle.std.proofs.Common.{ap, ◌∙◌, cond, arith}
use Rattle.std.specs.FinSet as set
use Rattle.access_graph.proofs.SystemLemmas.{bit_of_system}
use Rattle.access_graph.proofs.systems.Systems.bits.Goals as goal

pub returns : goal.returns
returns c = λ system.
    bit_of_system c.self.inside.bits system (omega arith) ∙ ap (λ s. cond (set.contains s system) 1 0) c.self.view_is
