use Rattle.std.proofs.Common.{◌++◌, [], Bool, sym, ap, ◌∙◌}
use Rattle.world_model.specs.Frames.{own_pools}
use Rattle.row_lang.specs.Bodies.{after_body}
use Rattle.system_api.specs.Batches.{entity_at}
use Rattle.system_eval.specs.Lanes.{beside, given_to, own_at, setting_at}
use Rattle.system_eval.proofs.DeedLemmas.{append_nil}
use Rattle.system_eval.proofs.DoingLemmas.{none_spawned}
use Rattle.system_eval.proofs.body.run_body.Goals as goal

pub returns-clause-rows : goal.returns-clause-rows
returns-clause-rows c = λ lane h.
    let s = c.args.scene.now in
    c.do_statements.ensures.does.rows lane h []
    ∙ ap (λ (b : Bool). (after_body (setting_at s lane) c.args.statements.now (record { rows = own_at (own_pools s.access) c.args.columns.now lane; spawned = b; orders = [] })).rows) (none_spawned 64 lane)

pub returns-clause-orders : goal.returns-clause-orders
returns-clause-orders c = λ lane h marked.
    let s = c.args.scene.now in
    let index = (entity_at s.entities lane).index in
    c.do_statements.ensures.does.orders lane h marked (given_to index c.args.out.now.list) [] (sym (append_nil (given_to index c.args.out.now.list)))
    ∙ ap (λ (b : Bool). given_to index c.args.out.now.list ++ beside index (after_body (setting_at s lane) c.args.statements.now (record { rows = own_at (own_pools s.access) c.args.columns.now lane; spawned = b; orders = [] })).orders) (none_spawned 64 lane)
