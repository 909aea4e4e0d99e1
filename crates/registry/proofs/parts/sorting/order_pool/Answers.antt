use Rattle.std.proofs.Common.{length, ap, arith}
use Rattle.std.specs.Vec.{with_item}
use Rattle.registry.specs.Layout.{world_of}
use Rattle.registry.proofs.DoneLemmas.{stayed}
use Rattle.registry.proofs.PoolLemmas.{read_at, at_pool}
use Rattle.registry.proofs.ReorderLemmas.{with_pools, put_back, set_same}
use Rattle.registry.proofs.SortedLemmas.{accepted_pool, pool_listed, pool_sorted}
use Rattle.registry.proofs.parts.sorting.order_pool.Goals as goal

pub returns-in-Ok-clause-consistent : goal.returns-in-Ok-clause-consistent
returns-in-Ok-clause-consistent g c =
    let old = c.args.parts.now in
    let low = (accepted_pool old.slots.limit (world_of old) c.args.pool c.args.field c.requires.accepted).0 in
    let here = read_at old.pools.items (length old.decls) c.args.pool _ c.requires.consistent.pool_each low c.index_mut.ensures.value in
    (pool_sorted old c.args.pool c.args.field c.index_mut.result.now c.sort_rows.new.stored here c.requires.consistent c.requires.accepted c.in-Ok.ensures.keys c.in-Ok.ensures.core c.in-Ok.ensures.permutation c.groups_after_changes.ensures.order).kept

pub returns-in-Ok-clause-ok : goal.returns-in-Ok-clause-ok
returns-in-Ok-clause-ok g c =
    let old = c.args.parts.now in
    let low = (accepted_pool old.slots.limit (world_of old) c.args.pool c.args.field c.requires.accepted).0 in
    let here = read_at old.pools.items (length old.decls) c.args.pool _ c.requires.consistent.pool_each low c.index_mut.ensures.value in
    (pool_sorted old c.args.pool c.args.field c.index_mut.result.now c.sort_rows.new.stored here c.requires.consistent c.requires.accepted c.in-Ok.ensures.keys c.in-Ok.ensures.core c.in-Ok.ensures.permutation c.groups_after_changes.ensures.order).does

pub returns-in-Ok-clause-packed : goal.returns-in-Ok-clause-packed
returns-in-Ok-clause-packed g c =
    let old = c.args.parts.now in
    let low = (accepted_pool old.slots.limit (world_of old) c.args.pool c.args.field c.requires.accepted).0 in
    let here = read_at old.pools.items (length old.decls) c.args.pool _ c.requires.consistent.pool_each low c.index_mut.ensures.value in
    (pool_sorted old c.args.pool c.args.field c.index_mut.result.now c.sort_rows.new.stored here c.requires.consistent c.requires.accepted c.in-Ok.ensures.keys c.in-Ok.ensures.core c.in-Ok.ensures.permutation c.groups_after_changes.ensures.order).packs

pub returns-in-Ok-clause-order : goal.returns-in-Ok-clause-order
returns-in-Ok-clause-order g c =
    let old = c.args.parts.now in
    let low = (accepted_pool old.slots.limit (world_of old) c.args.pool c.args.field c.requires.accepted).0 in
    let here = read_at old.pools.items (length old.decls) c.args.pool _ c.requires.consistent.pool_each low c.index_mut.ensures.value in
    pool_listed old c.args.pool c.args.field c.index_mut.result.now c.sort_rows.new.stored here c.requires.consistent c.requires.accepted c.in-Ok.ensures.keys

pub returns-in-Ok-clause-steps : goal.returns-in-Ok-clause-steps
returns-in-Ok-clause-steps g c =
    let old = c.args.parts.now in
    let low = (accepted_pool old.slots.limit (world_of old) c.args.pool c.args.field c.requires.accepted).0 in
    let here = read_at old.pools.items (length old.decls) c.args.pool _ c.requires.consistent.pool_each low c.index_mut.ensures.value in
    omega (arith, c.sort_rows.ensures.steps, ap length (at_pool old c.args.pool c.index_mut.result.now c.index_mut.result.now here))

pub returns-in-Err-clause-err : goal.returns-in-Err-clause-err
returns-in-Err-clause-err g c =
    let old = c.args.parts.now in
    let low = (accepted_pool old.slots.limit (world_of old) c.args.pool c.args.field c.requires.accepted).0 in
    let here = read_at old.pools.items (length old.decls) c.args.pool _ c.requires.consistent.pool_each low c.index_mut.ensures.value in
    let pools = with_item old.pools c.args.pool c.sort_rows.new.stored in
    (stayed old (with_pools old pools c.requires.consistent) c.requires.consistent (put_back old pools c.requires.consistent (set_same old.pools.items c.args.pool c.index_mut.result.now c.sort_rows.new.stored here c.in-Err.ensures.err))).1

pub returns-in-Err-clause-steps : goal.returns-in-Err-clause-steps
returns-in-Err-clause-steps g c =
    let old = c.args.parts.now in
    let low = (accepted_pool old.slots.limit (world_of old) c.args.pool c.args.field c.requires.accepted).0 in
    let here = read_at old.pools.items (length old.decls) c.args.pool _ c.requires.consistent.pool_each low c.index_mut.ensures.value in
    omega (arith, c.sort_rows.ensures.steps, ap length (at_pool old c.args.pool c.index_mut.result.now c.index_mut.result.now here))
