use Rattle.std.proofs.Common.{◌≡◌, ◌<◌, List, length, sym, ap, ◌∙◌, subst, arith, slice_set}
use Rattle.world_model.specs.declared.component.Row.{Row}
use Rattle.system_api.specs.Batches.{AreScattered}
use Rattle.system_api.specs.Registers.{Register, pool_at, rows_of, ChangesRowsAt}
use Rattle.system_api.specs.HeldPools.{register_of}
use Rattle.system_api.proofs.ChangeLemmas.{with_rows, rows-with_rows, pool_at-here, pool_at-set, changes_rows_at}
use Rattle.system_api.proofs.lent.Lent.scatter.Goals as goal

pub returns-clause-pools : goal.returns-clause-pools
returns-clause-pools c =
    let items = c.self.inside.writes.items in
    let w = c.index_mut.result.now in
    let rows = c.store_rows.new.rows in
    let long : length rows ≡ length (rows_of w) = c.store_rows.ensures.long ∙ ap length c.split_mut-rows.ensures.value in
    subst (λ (r : Register). ChangesRowsAt c.args.at r (register_of c.self.inside.reads.items (slice_set items c.args.at (with_rows w rows)) c.self.inside.prefix)) c.self.view_is
    (changes_rows_at c.self.inside.reads.items c.self.inside.prefix items c.args.at w rows c.index_mut.ensures.value long)

pub returns-clause-rows : goal.returns-clause-rows
returns-clause-rows c =
    let items = c.self.inside.writes.items in
    let w = c.index_mut.result.now in
    let rows = c.store_rows.new.rows in
    let within : c.args.at < length items = omega (arith, c.requires.within, ap (λ r. length r.writes) c.self.view_is) in
    let before : pool_at c.args.self.now.writes c.args.at ≡ w = ap (λ r. pool_at r.writes c.args.at) (sym c.self.view_is) ∙ pool_at-here items c.args.at w within c.index_mut.ensures.value in
    let olds : c.split_mut-rows.result.1.now ≡ rows_of (pool_at c.args.self.now.writes c.args.at) = c.split_mut-rows.ensures.value ∙ ap rows_of (sym before) in
    let long : length rows ≡ length (rows_of w) = c.store_rows.ensures.long ∙ ap length c.split_mut-rows.ensures.value in
    let news : rows ≡ rows_of (pool_at (slice_set items c.args.at (with_rows w rows)) c.args.at) = sym (ap rows_of (pool_at-set items c.args.at (with_rows w rows) within) ∙ rows-with_rows w rows long) in
    subst (λ (rs : List Row). AreScattered c.args.from c.args.marks.now c.args.column.now (rows_of (pool_at c.args.self.now.writes c.args.at)) rs) news (subst (λ (rs : List Row). AreScattered c.args.from c.args.marks.now c.args.column.now rs rows) olds c.store_rows.ensures)
