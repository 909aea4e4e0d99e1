use Rattle.std.proofs.Common.{◌≡◌, ◌≤◌, ◌+◌, ◌++◌, ◌&&◌, cond, [], take, drop, length, get_or, set, Some, slice_get, true, sym, refl, ap, ap₂, ◌∙◌, subst, arith}
use Rattle.std.proofs.lemmas.List.{map-set}
use Rattle.std.proofs.lemmas.Option.{get_or_from_slice_get}
use Rattle.entity_id.specs.FiniteMap as entries
use Rattle.storage.specs.Stored.{Stored}
use Rattle.world_model.specs.declared.component.Row.{Row}
use Rattle.group_engine.specs.Grouped.{packed_of, cores_of, AreStill, AreGroupedWithout, moves}
use Rattle.entity_id.specs.Matching.{is_in}
use Rattle.registry.specs.Layout.{maps_of, rooms_of}
use Rattle.registry.specs.Leaving.{hearings_after}
use Rattle.registry.specs.Packing.{popped_in}
use Rattle.registry.proofs.CoreLemmas.{core_count, core_here, core_maps, core_room, came_back, back_cores, groups_stay}
use Rattle.registry.proofs.LeavingLemmas.{room_set, none_withdrawn, none_told}
use Rattle.registry.proofs.PackingLemmas.{where_popped, still_popped, not_popped, in_here, all_still}
use Rattle.registry.proofs.PoolLemmas.{read_at}
use Rattle.registry.proofs.SpendLemmas.{spare_less, no_rows, rows_set, rows_to_cores}
use Rattle.registry.specs.Spending.{nowhere}
use Rattle.registry.proofs.parts.rows.withdraw.Goals as goal

pub returns-then-not-contains-clause-maps : goal.returns-then-not-contains-clause-maps
returns-then-not-contains-clause-maps g c =
    let items = c.args.pools.now.items in
    let here : slice_get items c.args.pool ≡ Some c.index.result.now = read_at items (length items) c.args.pool c.index.result.now refl c.requires.declared c.index.ensures in
    none_withdrawn (maps_of items) c.args.pool c.args.entity (ap (λ rows. entries.contains rows c.args.entity) (sym (core_here items items c.args.pool c.index.result.now refl here)) ∙ sym c.if-not-contains.ensures.map)

pub returns-then-not-contains-clause-hearings : goal.returns-then-not-contains-clause-hearings
returns-then-not-contains-clause-hearings g c =
    let items = c.args.pools.now.items in
    let here : slice_get items c.args.pool ≡ Some c.index.result.now = read_at items (length items) c.args.pool c.index.result.now refl c.requires.declared c.index.ensures in
    none_told c.args.destroy.now.items c.args.pool c.args.entity (get_or (maps_of items) c.args.pool []) (ap (λ rows. entries.contains rows c.args.entity) (sym (core_here items items c.args.pool c.index.result.now refl here)) ∙ sym c.if-not-contains.ensures.map)

pub returns-then-not-contains-clause-groups : goal.returns-then-not-contains-clause-groups
returns-then-not-contains-clause-groups g c = groups_stay c.args.groups.now c.args.pools.now.items c.args.pools.now.items c.requires.grouped refl

pub returns-then-not-contains-clause-packed : goal.returns-then-not-contains-clause-packed
returns-then-not-contains-clause-packed g c =
    let items = c.args.pools.now.items in
    let here : slice_get items c.args.pool ≡ Some c.index.result.now = read_at items (length items) c.args.pool c.index.result.now refl c.requires.declared c.index.ensures in
    all_still _ (popped_in c.args.pool c.args.entity (packed_of items)) (packed_of items) (not_popped items c.args.pool c.index.result.now c.args.entity here (sym c.if-not-contains.ensures.packed))

pub returns-then-not-contains-clause-spends : goal.returns-then-not-contains-clause-spends
returns-then-not-contains-clause-spends g c = no_rows nowhere (rooms_of c.args.pools.now.items) (packed_of c.args.pools.now.items) c.args.destroy.now.items

pub before_remove-requires-clause-here : goal.before_remove-requires-clause-here
before_remove-requires-clause-here g c =
    let items = c.args.pools.now.items in
    let here : slice_get items c.args.pool ≡ Some c.index.result.now = read_at items (length items) c.args.pool c.index.result.now refl c.requires.declared c.index.ensures in
    ap (λ list. is_in (packed_of list) c.args.entity c.args.pool) c.deref_mut.ensures.value ∙ in_here items c.args.pool c.index.result.now c.args.entity here ∙ sym c.if-not-contains.ensures.packed

pub leave-requires : goal.leave-requires
leave-requires g c =
    let items = c.args.pools.now.items in
    let mid = c.before_remove.new.pools in
    let lent = take c.args.pools.now.len (mid ++ drop (length mid) items) in
    let cores : cores_of lent ≡ cores_of items = back_cores items c.deref_mut.result.now mid c.args.pools.now.len c.deref_mut.ensures.value c.deref_mut.ensures.len c.before_remove.ensures.cores in
    let count = core_count lent items cores in
    let here : slice_get lent c.args.pool ≡ Some c.index_mut.result.now = read_at lent (length items) c.args.pool c.index_mut.result.now count c.requires.declared c.index_mut.ensures.value in
    let there : slice_get c.args.destroy.now.items c.args.pool ≡ Some c.index_mut-2.result.now = read_at c.args.destroy.now.items (length items) c.args.pool c.index_mut-2.result.now (sym c.requires.each) c.requires.declared c.index_mut-2.ensures.value in
    core_room lent items c.args.destroy.now.items cores c.requires.room c.args.pool c.index_mut.result.now c.index_mut-2.result.now here there

pub returns : goal.returns
returns g c =
    let items = c.args.pools.now.items in
    let signals = c.args.destroy.now.items in
    let decls = c.args.groups.now.decls in
    let at = c.args.pool in
    let e = c.args.entity in
    let mid = c.before_remove.new.pools in
    let lent = take c.args.pools.now.len (mid ++ drop (length mid) items) in
    let p = c.index_mut.result.now in
    let p' = c.leave.new.pool in
    let s = c.index_mut-2.result.now in
    let groups = c.before_remove.new.self in
    let back : lent ≡ mid = came_back items c.deref_mut.result.now mid c.args.pools.now.len c.deref_mut.ensures.value c.deref_mut.ensures.len c.before_remove.ensures.cores in
    let cores : cores_of lent ≡ cores_of items = back_cores items c.deref_mut.result.now mid c.args.pools.now.len c.deref_mut.ensures.value c.deref_mut.ensures.len c.before_remove.ensures.cores in
    let count = core_count lent items cores in
    let first : slice_get items at ≡ Some c.index.result.now = read_at items (length items) at c.index.result.now refl c.requires.declared c.index.ensures in
    let here : slice_get lent at ≡ Some p = read_at lent (length items) at p count c.requires.declared c.index_mut.ensures.value in
    let there : slice_get signals at ≡ Some s = read_at signals (length items) at s (sym c.requires.each) c.requires.declared c.index_mut-2.ensures.value in
    let rows = core_here lent items at p cores here in
    let was : true ≡ entries.contains (get_or (maps_of items) at []) e = c.if-not-contains.ensures.map ∙ ap (λ rows. entries.contains rows e) (core_here items items at c.index.result.now refl first) in
    let left : c.leave.result ≡ true = c.leave.ensures.was ∙ ap (λ rows. entries.contains rows e) rows ∙ sym was in
    let still = subst (λ list. AreStill (moves decls at) (packed_of items) (packed_of list)) (sym back) (subst (λ list. AreStill (moves decls at) (packed_of list) (packed_of mid)) c.deref_mut.ensures.value c.before_remove.ensures.still) in
    let one : c.leave.new.steps ≡ c.before_remove.new.steps + 1 = c.leave.ensures.steps ∙ ap (λ b. c.before_remove.new.steps + cond b 1 0) left in
    record {
      was = was;
      maps = map-set (λ (v : Stored Row). entries.map_of v.pairs) lent at p' ∙ ap₂ (λ maps rows. set maps at rows) (core_maps lent items cores) (c.leave.ensures.map ∙ ap (λ rows. entries.remove rows e) rows);
      hearings = ap (set signals at) (c.leave.ensures.hearings ∙ ap₂ (λ rows told. hearings_after at e rows told) rows (sym (get_or_from_slice_get signals at s [] there)));
      room = room_set lent signals at p p' s c.leave.new.destroy here there (core_room lent items signals cores c.requires.room) c.leave.ensures.room;
      groups = record {
        decls = c.before_remove.ensures.decls;
        count = c.before_remove.ensures.pools;
        grouped = c.groups_after_changes.ensures.erased groups.decls groups.lens lent at p p' e here
            (subst (λ list. AreGroupedWithout groups.decls groups.lens (packed_of list) e at) (sym back) c.before_remove.ensures.grouped)
            (where_popped (entries.keys p.pairs) (entries.keys p'.pairs) e c.leave.ensures.keys);
      };
      stays = tt;
      packed = subst (λ b. AreStill (λ other. b && moves decls at other) (popped_in at e (packed_of items)) (packed_of (set lent at p'))) was
          (still_popped (moves decls at) items lent at p p' e here count still c.leave.ensures.keys);
      spends = rows_to_cores nowhere (rooms_of (set lent at p')) (packed_of (set lent at p')) items lent signals (set signals at c.leave.new.destroy) cores
          (rows_set nowhere lent signals at p p' s c.leave.new.destroy here there (omega (arith, c.leave.ensures.spare)) (omega (arith, c.leave.ensures.bound))
          (λ n h. c.leave.ensures.destroy_room n (spare_less (n + length p.pairs) (n + (length p.pairs + 0)) s (omega arith) h)));
      steps = λ unnamed. one ∙ ap (λ n. n + 1) (c.before_remove.ensures.quiet unnamed);
      few = let some = c.before_remove.ensures.steps in omega (arith, one, some);
    }
