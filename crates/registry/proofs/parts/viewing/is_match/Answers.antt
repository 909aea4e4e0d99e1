use Rattle.std.proofs.Common.{not, ◌&&◌, sym, ap, ap₂, ◌∙◌}
use Rattle.std.specs.List.{list_any}
use Rattle.world_model.specs.Contents.{has_row}
use Rattle.registry.specs.Layout.{world_of}
use Rattle.registry.proofs.ViewLemmas.{match_by_rows}
use Rattle.registry.proofs.parts.viewing.is_match.Goals as goal

pub returns-then-is_in_all : goal.returns-then-is_in_all
returns-then-is_in_all g c =
    sym (match_by_rows (world_of c.args.parts.now) c.args.all.now c.args.without.now c.args.entity ∙ ap₂ (λ a b. a && not b) (sym c.if-is_in_all.ensures) (sym c.is_in_one.ensures))

pub returns-else-is_in_all : goal.returns-else-is_in_all
returns-else-is_in_all g c =
    let w = world_of c.args.parts.now in
    c.if-is_in_all.false ∙ sym (match_by_rows w c.args.all.now c.args.without.now c.args.entity ∙ ap (λ a. a && not (list_any (λ pool. has_row w pool c.args.entity) c.args.without.now)) (sym c.if-is_in_all.ensures))
