use Rattle.std.proofs.Common.{sym, ap, ◌∙◌, eqb, arith}
use Rattle.std.specs.FinSet as set
use Rattle.std.proofs.lemmas.Bool.{le-ltb}
use Rattle.std.proofs.lemmas.Nat.Bits.{shr_and_one}
use Rattle.access_graph.proofs.SystemLemmas.{contains_below, contains_above}
use Rattle.access_graph.proofs.systems.Systems.has.Goals as goal

pub returns-then-system-lt-SYSTEM_LIMIT : goal.returns-then-system-lt-SYSTEM_LIMIT
returns-then-system-lt-SYSTEM_LIMIT c =
    ap (λ n. eqb n 1) (shr_and_one c.self.inside.bits c.args.system)
    ∙ sym (contains_below c.self.inside.bits c.args.system (omega arith)) ∙ ap (λ s. set.contains s c.args.system) c.self.view_is

pub returns-else-system-lt-SYSTEM_LIMIT : goal.returns-else-system-lt-SYSTEM_LIMIT
returns-else-system-lt-SYSTEM_LIMIT c =
    le-ltb c.args.system 64 (omega arith)
    ∙ sym (contains_above c.self.inside.bits c.args.system (omega arith)) ∙ ap (λ s. set.contains s c.args.system) c.self.view_is
