use Rattle.std.proofs.Common.{◌∷◌, sym, ◌∙◌, arith, inl}
use Rattle.entity_id.proofs.FrontLemmas.{same_number}
use Rattle.world_text.proofs.number_lines.number_line.Goals as goal

pub returns-in_err-after-clause-none : goal.returns-in_err-after-clause-none
returns-in_err-after-clause-none c = rw c.from_residual-in_err-after.ensures (λ number more is.
    let first = c.in_ok-number.ensures.some in
    c.in_err-after.ensures more
    (same_number c.in_ok-number.number number c.in_ok-number.rest.now (10 ∷ more) (omega (arith, first.within)) (omega (arith, is.within)) first.ended (inl (omega arith)) (sym first.whole ∙ is.whole)).1)
