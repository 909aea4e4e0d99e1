use Rattle.std.proofs.Common.{length, subst}
use Rattle.signal_sink.specs.Hearings.{HaveSpare}
use Rattle.registry.proofs.ReadyLemmas.{changed_spends}
use Rattle.registry.proofs.SpendLemmas.{hearings_here}
use Rattle.registry.proofs.PoolLemmas.{read_at, row_set, not_set}
use Rattle.registry.proofs.PackingLemmas.{packed_stays}
use Rattle.registry.proofs.ResultLemmas.{both_ok, both_err}
use Rattle.registry.proofs.parts.rows.change_row.Goals as goal

pub returns-clause-ok : goal.returns-clause-ok
returns-clause-ok g c =
    let old = c.args.parts.now in
    let h = c.requires.consistent in
    let at = c.args.pool in
    let low = c.requires.declared in
    both_ok c.change.result c.change.ensures.map c.change.ensures.heard (λ map heard. row_set old at c.index_mut.result.now c.change.new.pool (read_at old.pools.items (length old.decls) at _ h.pool_each low c.index_mut.ensures.value)
    c.index_mut-2.result.now c.change.new.update (read_at old.update.items (length old.decls) at _ h.update_each low c.index_mut-2.ensures.value)
    h c.change.ensures.len c.change.ensures.keys c.args.entity c.args.row map heard)

pub returns-clause-err : goal.returns-clause-err
returns-clause-err g c =
    let old = c.args.parts.now in
    let h = c.requires.consistent in
    let at = c.args.pool in
    let low = c.requires.declared in
    both_err c.change.result c.change.ensures.err c.change.ensures.heard_err (λ same quiet. not_set old at c.index_mut.result.now c.change.new.pool (read_at old.pools.items (length old.decls) at _ h.pool_each low c.index_mut.ensures.value)
    c.index_mut-2.result.now c.change.new.update (read_at old.update.items (length old.decls) at _ h.update_each low c.index_mut-2.ensures.value)
    h c.change.ensures.len c.change.ensures.keys same quiet)

pub change-requires : goal.change-requires
change-requires g c stands =
    let old = c.args.parts.now in
    subst (HaveSpare 1) (hearings_here old.update.items c.args.pool c.index_mut-2.result.now (read_at old.update.items (length old.decls) c.args.pool _ c.requires.consistent.update_each c.requires.declared c.index_mut-2.ensures.value)) (c.requires.heard stands)

pub returns-clause-spends : goal.returns-clause-spends
returns-clause-spends g c adds =
    let old = c.args.parts.now in
    let h = c.requires.consistent in
    let at = c.args.pool in
    let low = c.requires.declared in
    changed_spends old at c.index_mut.result.now c.change.new.pool c.index_mut-2.result.now c.change.new.update adds (read_at old.pools.items (length old.decls) at _ h.pool_each low c.index_mut.ensures.value)
    (read_at old.update.items (length old.decls) at _ h.update_each low c.index_mut-2.ensures.value) c.change.ensures.spare c.change.ensures.bound c.change.ensures.len c.change.ensures.update_room

pub returns-clause-packed : goal.returns-clause-packed
returns-clause-packed g c =
    let old = c.args.parts.now in
    packed_stays old.pools.items c.args.pool c.index_mut.result.now c.change.new.pool (read_at old.pools.items (length old.decls) c.args.pool _ c.requires.consistent.pool_each c.requires.declared c.index_mut.ensures.value) c.change.ensures.keys
