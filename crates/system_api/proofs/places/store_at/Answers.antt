use Rattle.std.proofs.Common.{◌+◌, ◌<◌, [], List, length, refl, sym, ap, ◌∙◌, subst, arith, slice_set, if◌then◌else◌}
use Rattle.world_model.specs.declared.component.Row.{Row}
use Rattle.world_model.specs.Components.{zero_row}
use Rattle.system_api.specs.Batches.{place_at, is_marked}
use Rattle.system_api.proofs.SettingLemmas.{IsSetBefore, set-more, within_any}
use Rattle.system_api.proofs.places.store_at.Goals as goal

pub loop-lane-preserved : goal.loop-lane-preserved
loop-lane-preserved c =
    let n = c.loop-lane.lane in
    let marks = c.args.marks.now in
    let places = c.args.places.now in
    let column = c.args.column.now in
    let old = c.loop-lane.rows in
    let low : n < 64 = c.loop-lane-test.true in
    let more = set-more marks places column c.args.rows.now old n c.loop-lane.invariant (is_marked marks n) refl low c.requires.apart (λ marked. omega (arith, c.requires.there n low marked, c.loop-lane.invariant.long)) in
    let within : n < length column = omega (arith, low, c.told-column) in
    let is = c.set_marked.ensures ∙ ap (λ (row : Row). if is_marked marks n then slice_set old (place_at places n) row else old) (within_any column n (record { f = [] }) zero_row within) in
    subst (λ (rows : List Row). IsSetBefore (n + 1) marks places column c.args.rows.now rows) (sym is) more
