use Rattle.std.proofs.Common.{◌≡◌, ◌<◌, ◌≤◌, ◌+◌, ℕ, length, sym, ap, ◌∙◌, subst, arith, below_more}
use Rattle.std.specs.Prelude.{slice_index}
use Rattle.registry.specs.Layout.{held_of}
use Rattle.registry.specs.Rooms.{HasRoomInPool, slots_after}
use Rattle.registry.specs.Spending.{nowhere}
use Rattle.registry.proofs.ReserveLemmas.{before_both, kept_both, room_stays, room_made, room_kept}
use Rattle.registry.proofs.SpendLemmas.{spends_nothing}
use Rattle.registry.proofs.parts.reserving.reserve_for.Goals as goal

pub loop-pool-init : goal.loop-pool-init
loop-pool-init g c = record {
  kept = c.reserve_slots.ensures.consistent;
  same = c.reserve_slots.ensures.same;
  decls = c.reserve_slots.ensures.decls;
  spends = spends_nothing nowhere nowhere (held_of c.reserve_slots.new.parts);
  whole = c.reserve_slots.ensures.spends;
  rooms = λ pool low. absurd (omega arith);
}

pub loop-pool-preserved : goal.loop-pool-preserved
loop-pool-preserved g c =
    let l = c.loop-pool in
    let first = held_of c.args.parts.now in
    let old = held_of l.parts in
    let new = held_of c.reserve_pool.new.parts in
    let all = c.reserve_pool.ensures in
    record {
      kept = all.consistent;
      same = before_both first old new l.invariant.same all.same;
      decls = all.decls ∙ l.invariant.decls;
      spends = kept_both (held_of c.reserve_slots.new.parts) old new l.invariant.spends all.spends;
      whole = kept_both first old new l.invariant.whole all.spends;
      rooms = below_more _ _ (λ pool low. room_stays old new c.in_ok-reach.reach _ _ pool (l.invariant.rooms pool low) all.spends all.same.packed) c.in_ok-reserve_pool.ensures.ok;
    }

pub returns-in_err-reserve_pool-clause-same : goal.returns-in_err-reserve_pool-clause-same
returns-in_err-reserve_pool-clause-same g c = before_both (held_of c.args.parts.now) (held_of c.loop-pool.parts) (held_of c.reserve_pool.new.parts) c.loop-pool.invariant.same c.reserve_pool.ensures.same

pub returns-in_err-reach-clause-room : goal.returns-in_err-reach-clause-room
returns-in_err-reach-clause-room g c other room = room_kept (held_of c.args.parts.now) (held_of c.reserve_slots.new.parts) _ _ _ room c.reserve_slots.ensures.spends c.reserve_slots.ensures.same

pub returns-in_err-reserve_pool-clause-room : goal.returns-in_err-reserve_pool-clause-room
returns-in_err-reserve_pool-clause-room g c other room =
    let old = held_of c.args.parts.now in
    let mid = held_of c.loop-pool.parts in
    let new = held_of c.reserve_pool.new.parts in
    room_kept old new _ _ _ room (kept_both old mid new c.loop-pool.invariant.whole c.reserve_pool.ensures.spends) (before_both old mid new c.loop-pool.invariant.same c.reserve_pool.ensures.same)

pub returns-clause-room : goal.returns-clause-room
returns-clause-room g c other room = room_kept (held_of c.args.parts.now) (held_of c.loop-pool.parts) _ _ _ room c.loop-pool.invariant.whole c.loop-pool.invariant.same

pub returns-clause-ok : goal.returns-clause-ok
returns-clause-ok g c =
    let l = c.loop-pool in
    let old = held_of c.args.parts.now in
    let mid = held_of c.reserve_slots.new.parts in
    let new = held_of l.parts in
    let needs = c.args.needs.now in
    let enough : slots_after old needs.spawns ≤ length mid.world.slots + mid.slots_spare = c.in_ok-reach.ensures.ok in
    let kept : mid.slots_spare + length mid.world.slots ≤ new.slots_spare + length new.world.slots = l.invariant.spends.slots in
    room_made old new needs c.in_ok-reach.reach l.invariant.same c.in_ok-reach.ensures.reach (omega arith)
    (λ pool low.
    let count : length new.world.decls ≡ length old.world.decls = ap length l.invariant.decls in
    let long : length c.as_slice-adds.result.now ≡ length old.world.decls = ap length c.as_slice-adds.ensures ∙ c.requires.adds in
    subst (λ updates. HasRoomInPool new c.in_ok-reach.reach (slice_index needs.adds pool) (slice_index updates pool) pool) c.as_slice-updates.ensures
    (subst (λ adds. HasRoomInPool new c.in_ok-reach.reach (slice_index adds pool) (slice_index c.as_slice-updates.result.now pool) pool) c.as_slice-adds.ensures
    (l.invariant.rooms pool (omega arith))))
