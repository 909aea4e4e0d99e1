use Rattle.std.proofs.Common.{◌≡◌, Some, slice_get, refl, sym, ap, ◌∙◌}
use Rattle.entity_id.proofs.PackedListLemmas.{place_found}
use Rattle.system_api.proofs.places.place_near.Goals as goal

pub returns-then-is_at : goal.returns-then-is_at
returns-then-is_at c =
    let at : slice_get c.args.index.now.list c.args.near ≡ Some c.args.entity = ap (λ list. slice_get list c.args.near) (sym c.packed.ensures.list) ∙ c.if-is_at.ensures refl in
    sym (place_found c.args.index.now.list c.packed.ensures.distinct c.args.entity c.args.near at)
