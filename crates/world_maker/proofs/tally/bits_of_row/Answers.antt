use Rattle.std.proofs.Common.{◌<◌, ℤ, pos, List, [], ◌∷◌, length, take, get_or, w64, SFits, ap, ◌∙◌, rules}
use Rattle.std.specs.Prelude.{if◌then◌else◌}
use Rattle.std.proofs.lemmas.Int.{to_z-of_z}
use Rattle.world_model.specs.declared.component.Kind.{Kind}
use Rattle.world_model.specs.declared.component.Kind.TheVariants.{Int}
use Rattle.world_model.specs.Components.{is_int}
use Rattle.world_maker.specs.Summaries.{bits_sum, ints_among}
use Rattle.world_maker.proofs.SumLemmas.{add_bits, beside_more}
use Rattle.world_maker.proofs.tally.bits_of_row.Goals as goal

abbrev if_int : Kind × ℤ → List ℤ
if_int pair = if is_int pair.0 then pair.1 ∷ [] else []

pub loop-place-preserved : goal.loop-place-preserved
loop-place-preserved c =
    let kinds = c.args.kinds.now in
    let fields = c.args.row.now.f in
    let place = c.loop-place.place in
    let within : c.loop-place.place < length c.args.row.now.f = search rules in
    let fits : SFits w64 (get_or c.args.row.now.f c.loop-place.place (pos 0)) = search rules in
    let kept = to_z-of_z w64 (get_or fields place (pos 0)) fits in
    let here = c.bits_of_field-sum.ensures ∙ ap (λ (z : ℤ). bits_sum (if_int (get_or kinds place Int, z))) kept in
    add_bits c.loop-place.sum c.bits_of_field-sum.result (ints_among (take place kinds) fields) (if_int (get_or kinds place Int, get_or fields place (pos 0))) _
    c.loop-place.invariant here (beside_more if_int kinds fields place Int (pos 0) c.loop-place-test.true within)
