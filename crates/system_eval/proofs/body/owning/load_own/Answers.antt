use Rattle.std.proofs.Common.{sym, ap, ◌∙◌, arith}
use Rattle.world_model.specs.Components.{value_at}
use Rattle.system_eval.proofs.OwnLemmas.{own_found, own_past, own_missed, zero_values}
use Rattle.system_eval.proofs.body.owning.load_own.Goals as goal

pub returns-in_default : goal.returns-in_default
returns-in_default c = λ lane h.
    c.fill.ensures lane h ∙ sym (ap (λ row. value_at row c.args.at.field) (own_missed _ _ c.args.at.pool lane (sym c.in_default.ensures)) ∙ zero_values c.args.at.field)

pub returns-then-place-columns : goal.returns-then-place-columns
returns-then-place-columns c = λ lane h.
    c.fill-then-place-columns.ensures lane h ∙ sym (ap (λ row. value_at row c.args.at.field) (own_past _ _ c.args.at.pool lane c.in-Some.place (sym c.in-Some.ensures) c.if-place-columns.true) ∙ zero_values c.args.at.field)

pub returns : goal.returns
returns c = λ lane h.
    c.load_field.ensures lane h ∙ sym (ap (λ row. value_at row c.args.at.field) (own_found _ _ c.args.at.pool lane c.in-Some.place (sym c.in-Some.ensures) (omega (arith, c.if-place-columns.false))))
