use Rattle.std.proofs.lemmas.Option.{IfSome_then}
use Rattle.world_text.proofs.TakingLemmas.{number_field, target_field}
use Rattle.world_text.proofs.row_lines.take_field.Goals as goal

pub returns-in-Int-clause-some : goal.returns-in-Int-clause-some
returns-in-Int-clause-some c =
    rw c.in-Int.is (IfSome_then c.take_int.result c.take_int.ensures.some (λ x first.
    number_field c.args.profile c.args.text.now c.in_ok-rest.rest.now x.0 x.1.now c.in_ok-rest.ensures first))

pub returns-in-Ref-clause-some : goal.returns-in-Ref-clause-some
returns-in-Ref-clause-some c =
    rw c.in-Ref.is (IfSome_then c.take_target.result c.take_target.ensures.some (λ x h.
    target_field c.args.profile c.args.text.now c.in_ok-rest.rest.now h.0 x.0 x.1.now c.in_ok-rest.ensures h.1 h.2 h.3))
