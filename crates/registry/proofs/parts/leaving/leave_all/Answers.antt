use Rattle.std.proofs.Common.{◌≡◌, ◌≤◌, ◌<◌, ◌+◌, ◌-◌, ◌&&◌, [], cond, get_or, length, sym, refl, ap, ◌∙◌, subst, arith}
use Rattle.std.specs.Prelude.{sum_by}
use Rattle.std.proofs.lemmas.List.{length-map}
use Rattle.std.proofs.lemmas.Option.{slice_get-map, slice_get-get_or, get_or_from_slice_get}
use Rattle.entity_id.specs.FiniteMap as entries
use Rattle.entity_id.proofs.ListLemmas.{equal_by_place}
use Rattle.storage.specs.Stored.{Stored}
use Rattle.world_model.specs.declared.component.Row.{Row}
use Rattle.group_engine.specs.Grouped.{packed_of, AreStill, moves}
use Rattle.registry.specs.Costs.{row_steps}
use Rattle.registry.specs.Layout.{maps_of, rooms_of}
use Rattle.registry.specs.Spending.{nowhere}
use Rattle.registry.proofs.SpendLemmas.{no_rows, rows_both}
use Rattle.registry.specs.Packing.{popped_in}
use Rattle.registry.proofs.CoreLemmas.{groups_stay}
use Rattle.registry.proofs.LeavingLemmas.{IsLeft, left_one, none_left}
use Rattle.registry.proofs.PackingLemmas.{IsPoppedFrom, none_popped, one_popped, all_popped, holders_from, no_holder, one_holder, all_holders}
use Rattle.registry.proofs.StepLemmas.{one_left}
use Rattle.registry.proofs.parts.leaving.leave_all.Goals as goal

pub loop-left-init : goal.loop-left-init
loop-left-init g c =
    let pools = c.args.pools.now.items in
    let maps = maps_of pools in
    let decls = c.args.groups.now.decls in
    let all : c.len-left.result ≡ length pools = omega arith in
    let maps_long : length maps ≡ length pools = length-map pools (λ (s : Stored Row). entries.map_of s.pairs) in
    record {
      left = subst (λ n. IsLeft c.args.entity n pools pools c.args.signals.now.items c.args.signals.now.items) (sym all)
          (none_left c.args.entity pools c.args.signals.now.items c.requires.each c.requires.room);
      groups = groups_stay c.args.groups.now pools pools c.requires.grouped refl;
      popped = subst (λ n. IsPoppedFrom decls maps c.args.entity n (packed_of pools) (packed_of pools)) (length-map pools (λ (s : Stored Row). entries.keys s.pairs) ∙ sym all) (none_popped decls maps c.args.entity (packed_of pools));
      steps = let none : sum_by (row_steps decls) (holders_from maps c.args.entity c.len-left.result) ≡ 0 = ap (sum_by (row_steps decls)) (no_holder maps c.args.entity c.len-left.result (all ∙ sym maps_long)) in omega (arith, none);
      spends = no_rows nowhere (rooms_of pools) (packed_of pools) c.args.signals.now.items;
    }

pub loop-left-preserved : goal.loop-left-preserved
loop-left-preserved g c =
    let i = c.loop-left.left - 1 in
    let e = c.args.entity in
    let before = c.args.pools.now.items in
    let maps = maps_of before in
    let decls = c.args.groups.now.decls in
    let pools = c.loop-left.pools.items in
    let h = c.loop-left.invariant.left in
    let kept = c.loop-left.invariant.groups in
    let all = c.withdraw.ensures in
    let next : c.loop-left.left ≡ i + 1 = omega arith in
    let low : i < length before = let l : c.loop-left.left ≤ length before = h.low in omega arith in
    let within : i < length pools = omega (arith, h.pool_each) in
    let in_maps : i < length (maps_of pools) = omega (arith, length-map pools (λ (s : Stored Row). entries.map_of s.pairs)) in
    let in_before : i < length maps = omega (arith, length-map before (λ (s : Stored Row). entries.map_of s.pairs)) in
    let in_packed : i < length (packed_of pools) = omega (arith, length-map pools (λ (s : Stored Row). entries.keys s.pairs)) in
    let in_signals : i < length c.loop-left.signals.items = omega (arith, h.signal_each, c.requires.each) in
    let rows : get_or maps i [] ≡ get_or (maps_of pools) i [] = get_or_from_slice_get maps i (get_or (maps_of pools) i []) [] (sym (h.maps_rest i (omega arith)) ∙ slice_get-get_or (maps_of pools) i [] in_maps) in
    record {
      left = left_one e i before pools c.withdraw.new.pools.items c.args.signals.now.items c.loop-left.signals.items c.withdraw.new.destroy.items
          (subst (λ n. IsLeft e n before pools c.args.signals.now.items c.loop-left.signals.items) next h) within in_signals all.maps all.hearings all.room;
      groups = record { decls = all.groups.decls ∙ kept.decls; count = all.groups.count ∙ kept.count; grouped = all.groups.grouped };
      popped = one_popped decls maps e i (packed_of before) (packed_of pools) (packed_of c.withdraw.new.pools.items) in_before in_packed
          (subst (λ n. IsPoppedFrom decls maps e n (packed_of before) (packed_of pools)) next c.loop-left.invariant.popped)
          (subst (λ m. AreStill (λ q. entries.contains m e && moves decls i q) (popped_in i e (packed_of pools)) (packed_of c.withdraw.new.pools.items)) (sym rows)
          (subst (λ groups. AreStill (λ q. entries.contains (get_or (maps_of pools) i []) e && moves groups i q) (popped_in i e (packed_of pools)) (packed_of c.withdraw.new.pools.items)) kept.decls all.packed));
      steps = one_left (row_steps decls) (holders_from maps e i) (holders_from maps e (i + 1)) i c.args.steps.now c.loop-left.steps c.withdraw.new.steps (entries.contains (get_or maps i []) e) (one_holder maps e i in_before)
          (subst (λ n. c.loop-left.steps ≤ c.args.steps.now + sum_by (row_steps decls) (holders_from maps e n)) next c.loop-left.invariant.steps)
          (subst (λ b. c.withdraw.new.steps ≤ c.loop-left.steps + cond b (row_steps decls i) 0) (all.was ∙ ap (λ m. entries.contains m e) (sym rows))
          (subst (λ groups. c.withdraw.new.steps ≤ c.loop-left.steps + cond c.withdraw.result (row_steps groups i) 0) kept.decls all.few));
      spends = rows_both (rooms_of before) (rooms_of pools) (rooms_of c.withdraw.new.pools.items) (packed_of before) (packed_of pools) (packed_of c.withdraw.new.pools.items) c.args.signals.now.items c.loop-left.signals.items c.withdraw.new.destroy.items
          c.loop-left.invariant.spends all.spends;
    }

pub returns : goal.returns
returns g c =
    let h = c.loop-left.invariant.left in
    let before = c.args.pools.now.items in
    let decls = c.args.groups.now.decls in
    let none : c.loop-left.left ≡ 0 = omega arith in
    record {
      maps = equal_by_place _ _ (λ k. h.maps_done k (omega arith) ∙ sym (slice_get-map (λ m. entries.remove m c.args.entity) (maps_of before) k));
      hearings = λ k. h.hearings_done k (omega arith);
      room = h.room;
      groups = c.loop-left.invariant.groups;
      pool_each = h.pool_each;
      signal_each = h.signal_each;
      packed = all_popped decls (maps_of before) c.args.entity c.loop-left.left (packed_of before) (packed_of c.loop-left.pools.items) none c.loop-left.invariant.popped;
      steps = subst (λ holders. c.loop-left.steps ≤ c.args.steps.now + sum_by (row_steps decls) holders) (all_holders (maps_of before) c.args.entity c.loop-left.left none) c.loop-left.invariant.steps;
      spends = c.loop-left.invariant.spends;
    }
