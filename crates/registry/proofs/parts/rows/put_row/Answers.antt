use Rattle.std.proofs.Common.{◌≡◌, List, length, set, Some, slice_get, refl, sym, ap, ◌∙◌, subst}
use Rattle.std.specs.Vec.{with_item, with_items}
use Rattle.storage.specs.Stored.{Stored}
use Rattle.world_model.specs.declared.component.Row.{Row}
use Rattle.group_engine.specs.Grouped.{packed_of, cores_of, AreStill, WereGrouped, moves}
use Rattle.registry.specs.Layout.{KeepGroups}
use Rattle.registry.specs.Packing.{appended_in}
use Rattle.registry.proofs.CoreLemmas.{came_back}
use Rattle.registry.proofs.ResultLemmas.{all_err}
use Rattle.registry.proofs.PackingLemmas.{packed_appended}
use Rattle.registry.proofs.PoolLemmas.{read_at, entered, not_entered}
use Rattle.registry.proofs.ReadyLemmas.{ready_here, entered_spends}
use Rattle.registry.proofs.parts.rows.put_row.Goals as goal

pub enter-requires-clause-heard : goal.enter-requires-clause-heard
enter-requires-clause-heard g c =
    let old = c.args.parts.now in
    let h = c.requires.consistent in
    let at = c.args.pool in
    h.room at _ _ (read_at old.pools.items (length old.decls) at _ h.pool_each c.requires.declared c.index_mut.ensures.value) (read_at old.destroy.items (length old.decls) at _ h.destroy_each c.requires.declared c.index_mut-3.ensures.value)

pub enter-requires-clause-ready : goal.enter-requires-clause-ready
enter-requires-clause-ready g c stands =
    let old = c.args.parts.now in
    let h = c.requires.consistent in
    let at = c.args.pool in
    let low = c.requires.declared in
    ready_here old c.args.entity at c.index_mut.result.now c.index_mut-2.result.now c.index_mut-3.result.now (read_at old.pools.items (length old.decls) at _ h.pool_each low c.index_mut.ensures.value)
    (read_at old.construct.items (length old.decls) at _ h.construct_each low c.index_mut-2.ensures.value) (read_at old.destroy.items (length old.decls) at _ h.destroy_each low c.index_mut-3.ensures.value)
    h (c.requires.live stands) (c.requires.place stands)

pub after_add-requires : goal.after_add-requires
after_add-requires g c =
    let old = c.args.parts.now in
    let h = c.requires.consistent in
    let here : slice_get old.pools.items c.args.pool ≡ Some c.index_mut.result.now = read_at old.pools.items (length old.decls) c.args.pool _ h.pool_each c.requires.declared c.index_mut.ensures.value in
    subst (λ list. WereGrouped old.groups.decls old.groups.lens (packed_of list) c.args.entity c.args.pool) (sym c.deref_mut.ensures.value)
    (c.groups_after_changes.ensures.appended old.groups.decls old.groups.lens old.pools.items c.args.pool c.index_mut.result.now c.enter.new.pool c.args.entity here h.grouped c.in_ok-enter.ensures.keys c.in_ok-enter.ensures.fresh)

pub returns-in_err-enter-clause-err : goal.returns-in_err-enter-clause-err
returns-in_err-enter-clause-err g c =
    let old = c.args.parts.now in
    let h = c.requires.consistent in
    let at = c.args.pool in
    let low = c.requires.declared in
    let stays = not_entered old at c.index_mut.result.now c.enter.new.pool (read_at old.pools.items (length old.decls) at _ h.pool_each low c.index_mut.ensures.value)
    c.index_mut-2.result.now c.enter.new.construct c.index_mut-3.result.now c.enter.new.destroy
    (read_at old.construct.items (length old.decls) at _ h.construct_each low c.index_mut-2.ensures.value) (read_at old.destroy.items (length old.decls) at _ h.destroy_each low c.index_mut-3.ensures.value)
    h c.enter.ensures.quiet c.enter.ensures.room c.in_err-enter.ensures.err c.in_err-enter.ensures.heard_err in
    all_err c.from_residual.result stays

pub returns-clause-ok : goal.returns-clause-ok
returns-clause-ok g c =
    let old = c.args.parts.now in
    let h = c.requires.consistent in
    let at = c.args.pool in
    let low = c.requires.declared in
    let lent = c.deref_mut.result.now in
    let new = c.after_add.new.pools in
    let back = came_back (set old.pools.items at c.enter.new.pool) lent new old.pools.len c.deref_mut.ensures.value c.deref_mut.ensures.len c.after_add.ensures.cores in
    entered old at c.index_mut.result.now c.enter.new.pool (read_at old.pools.items (length old.decls) at _ h.pool_each low c.index_mut.ensures.value)
    c.index_mut-2.result.now c.enter.new.construct c.index_mut-3.result.now c.enter.new.destroy
    (read_at old.construct.items (length old.decls) at _ h.construct_each low c.index_mut-2.ensures.value) (read_at old.destroy.items (length old.decls) at _ h.destroy_each low c.index_mut-3.ensures.value)
    h c.enter.ensures.quiet c.enter.ensures.room c.args.entity c.args.row _ c.after_add.new.self
    (ap cores_of back ∙ c.after_add.ensures.cores ∙ ap cores_of c.deref_mut.ensures.value)
    (subst (KeepGroups old.groups c.after_add.new.self) (sym back) (record { decls = c.after_add.ensures.decls; count = c.after_add.ensures.pools; grouped = c.after_add.ensures.grouped })) c.in_ok-enter.ensures.map c.in_ok-enter.ensures.heard

pub returns-in_err-enter-clause-spends : goal.returns-in_err-enter-clause-spends
returns-in_err-enter-clause-spends g c updates =
    let old = c.args.parts.now in
    let h = c.requires.consistent in
    let at = c.args.pool in
    let low = c.requires.declared in
    let all = c.enter.ensures in
    entered_spends old at c.index_mut.result.now c.enter.new.pool c.index_mut-2.result.now c.enter.new.construct c.index_mut-3.result.now c.enter.new.destroy (with_item old.pools at c.enter.new.pool) old.groups updates
    (read_at old.pools.items (length old.decls) at _ h.pool_each low c.index_mut.ensures.value) (read_at old.construct.items (length old.decls) at _ h.construct_each low c.index_mut-2.ensures.value)
    (read_at old.destroy.items (length old.decls) at _ h.destroy_each low c.index_mut-3.ensures.value) all.spare all.bound all.few all.construct_room all.destroy_room refl

pub returns-clause-spends : goal.returns-clause-spends
returns-clause-spends g c updates =
    let old = c.args.parts.now in
    let h = c.requires.consistent in
    let at = c.args.pool in
    let low = c.requires.declared in
    let all = c.enter.ensures in
    let new = c.after_add.new.pools in
    let back = came_back (set old.pools.items at c.enter.new.pool) c.deref_mut.result.now new old.pools.len c.deref_mut.ensures.value c.deref_mut.ensures.len c.after_add.ensures.cores in
    entered_spends old at c.index_mut.result.now c.enter.new.pool c.index_mut-2.result.now c.enter.new.construct c.index_mut-3.result.now c.enter.new.destroy (with_items (with_item old.pools at c.enter.new.pool) new) c.after_add.new.self updates
    (read_at old.pools.items (length old.decls) at _ h.pool_each low c.index_mut.ensures.value) (read_at old.construct.items (length old.decls) at _ h.construct_each low c.index_mut-2.ensures.value)
    (read_at old.destroy.items (length old.decls) at _ h.destroy_each low c.index_mut-3.ensures.value) all.spare all.bound all.few all.construct_room all.destroy_room
    (ap cores_of back ∙ c.after_add.ensures.cores ∙ ap cores_of c.deref_mut.ensures.value)

pub returns-clause-packed : goal.returns-clause-packed
returns-clause-packed g c =
    let old = c.args.parts.now in
    let at = c.args.pool in
    let new = c.after_add.new.pools in
    let back = came_back (set old.pools.items at c.enter.new.pool) c.deref_mut.result.now new old.pools.len c.deref_mut.ensures.value c.deref_mut.ensures.len c.after_add.ensures.cores in
    let lists = ap packed_of c.deref_mut.ensures.value ∙ packed_appended old.pools.items at c.index_mut.result.now c.enter.new.pool c.args.entity (read_at old.pools.items (length old.decls) at _ c.requires.consistent.pool_each c.requires.declared c.index_mut.ensures.value) c.in_ok-enter.ensures.keys in
    subst (λ (pools : List (Stored Row)). AreStill (moves old.groups.decls at) (appended_in at c.args.entity (packed_of old.pools.items)) (packed_of pools)) (sym back) (subst (λ packed. AreStill (moves old.groups.decls at) packed (packed_of new)) lists c.after_add.ensures.still)
