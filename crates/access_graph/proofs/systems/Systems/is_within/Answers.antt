use Rattle.std.proofs.Common.{◌≡◌, ap, ◌∙◌, true, arith}
use Rattle.std.specs.FinSet as set
use Rattle.std.proofs.lemmas.Bool.{eqb-true, eq-eqb}
use Rattle.std.proofs.lemmas.Bool.Decides.{same_from_decides}
use Rattle.access_graph.specs.Systems.{systems_of}
use Rattle.access_graph.proofs.SystemLemmas.{within_from_zero, zero_from_within}
use Rattle.access_graph.proofs.systems.Systems.is_within.Goals as goal

pub returns : goal.returns
returns c =
    let a = c.self.inside.bits in
    let b = c.other.inside.bits in
    same_from_decides {P = set.is_subset (systems_of a) (systems_of b) ≡ true} _ _
    ((λ h. within_from_zero a b (omega arith) (eqb-true _ 0 h)), (λ h. eq-eqb _ 0 (zero_from_within a b (omega arith) (omega arith) h)))
    ((λ h. h), (λ h. h))
    ∙ ap (λ s. set.is_subset s (systems_of b)) c.self.view_is ∙ ap (set.is_subset c.args.self.now) c.other.view_is
