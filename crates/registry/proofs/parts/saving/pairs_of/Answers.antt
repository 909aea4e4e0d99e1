use Rattle.std.proofs.Common.{◌++◌, ◌∷◌, [], List, get_or, ap, ◌∙◌, arith}
use Rattle.entity_id.specs.declared.entity.Entity.{Entity}
use Rattle.world_model.specs.declared.component.Row.{Row}
use Rattle.registry.proofs.MapListLemmas.{zip_more}
use Rattle.registry.proofs.parts.saving.pairs_of.Goals as goal

pub loop-place-preserved : goal.loop-place-preserved
loop-place-preserved c =
    let entity : Entity = record { index = 0; version = 0 } in
    let row : Row = record { f = [] } in
    c.in_ok-push.ensures.items
    ∙ ap (λ (pairs : List (Entity × Row)). pairs ++ (get_or c.args.entities.now c.loop-place.place entity, get_or c.args.rows.now c.loop-place.place row) ∷ []) c.loop-place.invariant
    ∙ zip_more c.args.entities.now c.args.rows.now c.loop-place.place entity row c.requires (omega arith)
