use Rattle.std.proofs.Common.{◌≡◌, ◌+◌, true, false, refl, sym, ap, ◌∙◌, arith}
use Rattle.std.specs.Prelude.{is_some}
use Rattle.entity_id.specs.FiniteMap as entries
use Rattle.entity_id.proofs.PackedMapLemmas.{get-map_of}
use Rattle.registry.proofs.ResultLemmas.{ok_by_not_err, not_ok_by_err}
use Rattle.registry.proofs.SpendLemmas.{spare_less}
use Rattle.registry.proofs.parts.one_pool.change.Goals as goal

pub returns-then-is_err-2-clause-cause : goal.returns-then-is_err-2-clause-cause
returns-then-is_err-2-clause-cause g c _ =
    (refl, ap is_some (get-map_of c.args.pool.now.pairs c.args.told.entity c.index.ensures.once) ∙ sym c.set.ensures.ok ∙ not_ok_by_err c.set.result (sym c.if-is_err-2.ensures.value))

pub returns-clause-held : goal.returns-clause-held
returns-clause-held g c =
    ap is_some (get-map_of c.args.pool.now.pairs c.args.told.entity c.index.ensures.once) ∙ sym c.set.ensures.ok ∙ ok_by_not_err c.set.result (sym c.if-is_err-2.ensures.value)

pub returns-clause-not_held : goal.returns-clause-not_held
returns-clause-not_held g c none =
    let held : entries.contains (entries.map_of c.args.pool.now.pairs) c.args.told.entity ≡ true
    = ap is_some (get-map_of c.args.pool.now.pairs c.args.told.entity c.index.ensures.once) ∙ sym c.set.ensures.ok ∙ ok_by_not_err c.set.result (sym c.if-is_err-2.ensures.value) in
    let apart : false ≡ true = sym none ∙ held in
    cc

pub returns-then-is_err-clause-update_room : goal.returns-then-is_err-clause-update_room
returns-then-is_err-clause-update_room g c m h = c.room_for.ensures.room m (spare_less m (m + 1) c.args.update.now (omega arith) h)

pub returns-then-is_err-2-clause-update_room : goal.returns-then-is_err-2-clause-update_room
returns-then-is_err-2-clause-update_room g c m h = c.room_for.ensures.room m (spare_less m (m + 1) c.args.update.now (omega arith) h)

pub returns-clause-update_room : goal.returns-clause-update_room
returns-clause-update_room g c m h = c.publish.ensures.spare m (c.room_for.ensures.room (m + 1) h)
