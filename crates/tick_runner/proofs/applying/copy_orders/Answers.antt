use Rattle.std.proofs.Common.{◌≡◌, ◌<◌, ◌++◌, ◌∷◌, [], Some, length, take, slice_get, sym, ap, ◌∙◌}
use Rattle.std.proofs.lemmas.List.{take_more}
use Rattle.std.proofs.lemmas.Option.{slice_get-map, slice_get_within, get_or_from_slice_get}
use Rattle.system_api.specs.Emissions.{Emission}
use Rattle.tick_runner.specs.Running.{orders_in}
use Rattle.tick_runner.proofs.applying.copy_orders.Goals as goal

pub loop-place-preserved : goal.loop-place-preserved
loop-place-preserved c =
    let k = c.loop-place.place in
    let orders = orders_in c.args.buffer.now in
    let order = c.at.result in
    let at : slice_get orders k ≡ Some order = slice_get-map (λ (emission : Emission). emission.order) c.args.buffer.now.list k ∙ c.at.ensures in
    let low : k < length orders = slice_get_within orders k order at in
    c.in_ok-push.ensures.items ∙ ap (λ xs. xs ++ order ∷ []) c.loop-place.invariant
    ∙ ap (λ o. take k orders ++ o ∷ []) (sym (get_or_from_slice_get orders k order order at)) ∙ sym (take_more orders k order low)
