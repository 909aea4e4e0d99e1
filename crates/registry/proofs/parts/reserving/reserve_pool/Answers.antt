use Rattle.std.proofs.Common.{length}
use Rattle.registry.specs.Layout.{held_of}
use Rattle.registry.specs.Spending.{nowhere}
use Rattle.registry.proofs.DoneLemmas.{same, stayed}
use Rattle.registry.proofs.PoolLemmas.{read_at}
use Rattle.registry.proofs.ReserveLemmas.{made_stays, made_spends, made_room}
use Rattle.registry.proofs.ResultLemmas.{then_ok}
use Rattle.registry.proofs.SpendLemmas.{spends_nothing}
use Rattle.registry.proofs.parts.reserving.reserve_pool.Goals as goal

pub returns-clause-consistent : goal.returns-clause-consistent
returns-clause-consistent g c =
    let old = c.args.parts.now in
    let h = c.requires.consistent in
    let at = c.args.pool in
    let low = c.requires.declared in
    let all = c.reserve_rows.ensures in
    (stayed old _ h (made_stays old at c.index_mut.result.now c.reserve_rows.new.pool c.index_mut-2.result.now c.reserve_rows.new.construct c.index_mut-3.result.now c.reserve_rows.new.update c.index_mut-4.result.now c.reserve_rows.new.destroy
    (read_at old.pools.items (length old.decls) at _ h.pool_each low c.index_mut.ensures.value) (read_at old.construct.items (length old.decls) at _ h.construct_each low c.index_mut-2.ensures.value)
    (read_at old.update.items (length old.decls) at _ h.update_each low c.index_mut-3.ensures.value) (read_at old.destroy.items (length old.decls) at _ h.destroy_each low c.index_mut-4.ensures.value) all.pairs all.destroy_room h all.construct_quiet all.update_quiet all.destroy_quiet)).0

pub returns-clause-same : goal.returns-clause-same
returns-clause-same g c =
    let old = c.args.parts.now in
    let h = c.requires.consistent in
    let at = c.args.pool in
    let low = c.requires.declared in
    let all = c.reserve_rows.ensures in
    (stayed old _ h (made_stays old at c.index_mut.result.now c.reserve_rows.new.pool c.index_mut-2.result.now c.reserve_rows.new.construct c.index_mut-3.result.now c.reserve_rows.new.update c.index_mut-4.result.now c.reserve_rows.new.destroy
    (read_at old.pools.items (length old.decls) at _ h.pool_each low c.index_mut.ensures.value) (read_at old.construct.items (length old.decls) at _ h.construct_each low c.index_mut-2.ensures.value)
    (read_at old.update.items (length old.decls) at _ h.update_each low c.index_mut-3.ensures.value) (read_at old.destroy.items (length old.decls) at _ h.destroy_each low c.index_mut-4.ensures.value) all.pairs all.destroy_room h all.construct_quiet all.update_quiet all.destroy_quiet)).1

pub returns-clause-spends : goal.returns-clause-spends
returns-clause-spends g c =
    let old = c.args.parts.now in
    let h = c.requires.consistent in
    let at = c.args.pool in
    let low = c.requires.declared in
    let all = c.reserve_rows.ensures in
    made_spends old at c.index_mut.result.now c.reserve_rows.new.pool c.index_mut-2.result.now c.reserve_rows.new.construct c.index_mut-3.result.now c.reserve_rows.new.update c.index_mut-4.result.now c.reserve_rows.new.destroy
    (read_at old.pools.items (length old.decls) at _ h.pool_each low c.index_mut.ensures.value) (read_at old.construct.items (length old.decls) at _ h.construct_each low c.index_mut-2.ensures.value)
    (read_at old.update.items (length old.decls) at _ h.update_each low c.index_mut-3.ensures.value) (read_at old.destroy.items (length old.decls) at _ h.destroy_each low c.index_mut-4.ensures.value) all.pairs all.destroy_room all.spare all.bound all.construct_room all.update_room

pub returns-clause-ok : goal.returns-clause-ok
returns-clause-ok g c =
    let old = c.args.parts.now in
    let h = c.requires.consistent in
    let at = c.args.pool in
    let low = c.requires.declared in
    let all = c.reserve_rows.ensures in
    then_ok c.reserve_rows.result all.ok (made_room old at c.index_mut.result.now c.reserve_rows.new.pool c.index_mut-2.result.now c.reserve_rows.new.construct c.index_mut-3.result.now c.reserve_rows.new.update c.index_mut-4.result.now c.reserve_rows.new.destroy
    (read_at old.pools.items (length old.decls) at _ h.pool_each low c.index_mut.ensures.value) (read_at old.construct.items (length old.decls) at _ h.construct_each low c.index_mut-2.ensures.value)
    (read_at old.update.items (length old.decls) at _ h.update_each low c.index_mut-3.ensures.value) (read_at old.destroy.items (length old.decls) at _ h.destroy_each low c.index_mut-4.ensures.value) all.pairs all.destroy_room c.args.reach c.args.adds c.args.updates)

pub returns-then-adds-ge4294967296-clause-same : goal.returns-then-adds-ge4294967296-clause-same
returns-then-adds-ge4294967296-clause-same g c = same (held_of c.args.parts.now)
