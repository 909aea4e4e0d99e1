use Rattle.std.proofs.Common.{◌-◌, List, [], ◌∷◌, ◌++◌, get_or, sym, ap, ◌∙◌, arith}
use Rattle.std.proofs.lemmas.List.{take_more}
use Rattle.entity_id.specs.declared.entity.Entity.{Entity}
use Rattle.world_model.specs.declared.component.Row.{Row}
use Rattle.registry.proofs.ResultLemmas.{ok_by_not_err, on_ok}
use Rattle.registry.proofs.parts.loading.load_rows.Goals as goal

pub loop-entry-preserved : goal.loop-entry-preserved
loop-entry-preserved g c =
    let none : Entity × Row = (record { index = 0; version = 0 }, record { f = [] }) in
    let was_ok = ok_by_not_err c.emplace.result (sym c.if-is_err.ensures.value) in
    let so_far = c.loop-entry.invariant in
    record {
      rows = on_ok c.emplace.result was_ok c.emplace.ensures.ok ∙ ap (λ (rows : List (Entity × Row)). rows ++ get_or c.args.rows.now c.loop-entry.entry-index none ∷ []) so_far.rows
          ∙ sym (take_more c.args.rows.now c.loop-entry.entry-index none (omega arith));
      spare = on_ok c.emplace.result was_ok c.emplace.ensures.spare ∙ ap (λ n. n - 1) so_far.spare;
      bound = c.emplace.ensures.bound ∙ so_far.bound;
    }
