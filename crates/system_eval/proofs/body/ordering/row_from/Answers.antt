use Rattle.std.proofs.Common.{◌≡◌, sym, ◌∙◌, arith, to_z, of_z, w64}
use Rattle.std.proofs.lemmas.Int.{ints, to_z-of_z}
use Rattle.system_eval.specs.Stacks.{operands_at}
use Rattle.system_eval.proofs.DeedLemmas.{padded_from, four}
use Rattle.system_eval.proofs.body.ordering.row_from.Goals as goal

pub returns : goal.returns
returns c =
    let a : to_z w64 (of_z w64 c.value.result) ≡ c.value.result = grind (arith, ints, to_z-of_z) in
    let b : to_z w64 (of_z w64 c.value-2.result) ≡ c.value-2.result = grind (arith, ints, to_z-of_z) in
    let d : to_z w64 (of_z w64 c.value-3.result) ≡ c.value-3.result = grind (arith, ints, to_z-of_z) in
    let e : to_z w64 (of_z w64 c.value-4.result) ≡ c.value-4.result = grind (arith, ints, to_z-of_z) in
    four (a ∙ c.value.ensures) (b ∙ c.value-2.ensures) (d ∙ c.value-3.ensures) (e ∙ c.value-4.ensures) ∙ sym (padded_from (operands_at c.args.stack.now c.args.lane).values c.args.depth)
