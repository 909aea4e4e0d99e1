use Rattle.std.proofs.Common.{◌++◌, ◌∷◌, [], sym, ◌∙◌, arith}
use Rattle.std.proofs.lemmas.List.{take_more}
use Rattle.std.proofs.lemmas.Option.{get_or_from_slice_get}
use Rattle.registry.proofs.parts.saving.save_slots.Goals as goal

pub loop-index-preserved : goal.loop-index-preserved
loop-index-preserved c =
    let slots = c.args.slots.now.slots in
    let here = get_or_from_slice_get slots c.loop-index.index c.slot.result c.slot.result c.slot.ensures in
    c.in_ok-push.ensures.items ∙ (λ i. c.loop-index.invariant i ++ sym here i ∷ []) ∙ sym (take_more slots c.loop-index.index c.slot.result (omega arith))
