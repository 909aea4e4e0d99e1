use Rattle.std.proofs.Common.{◌≡◌, ◌+◌, length, drop, get_or, subst, arith}
use Rattle.std.proofs.lemmas.Option.{slice_get-get_or}
use Rattle.world_model.specs.declared.deferred.Deferred.{Deferred}
use Rattle.world_model.specs.declared.deferred.Deferred.TheVariants.{Kill}
use Rattle.registry.specs.Layout.{held_of}
use Rattle.registry.proofs.ApplyLemmas.{at_beginning, stands_counted, stands_more, stands_stopped, stands_last, fits_still}
use Rattle.registry.proofs.RoomLemmas.{left_more, room_for_next, left_last, room_by_needs, needs_left}
use Rattle.registry.specs.Spending.{nowhere, HasRoomAlso}
use Rattle.registry.proofs.parts.orders.apply.Goals as goal

abbrev none : Deferred
none = Kill (record { index = 0; version = 0 })

pub loop-order-init : goal.loop-order-init
loop-order-init g c = record { kept = c.requires.consistent; stands = at_beginning (held_of c.args.parts.now); left = λ adds updates spawns room. room }

pub carry_out-requires-clause-fitting : goal.carry_out-requires-clause-fitting
carry_out-requires-clause-fitting g c =
    let l = c.loop-order in
    fits_still (held_of c.args.parts.now) (held_of l.parts) c.args.orders.now l.order-index (get_or c.args.orders.now l.order-index none) l.last l.applied c.requires.fitting
    (slice_get-get_or c.args.orders.now l.order-index none (omega arith)) l.invariant.stands

pub carry_out-requires-clause-room : goal.carry_out-requires-clause-room
carry_out-requires-clause-room g c stands =
    let l = c.loop-order in
    room_for_next (held_of l.parts) c.args.orders.now l.order-index none (omega arith) (l.invariant.left nowhere nowhere 0 (room_by_needs (held_of c.args.parts.now) c.args.orders.now (c.requires.room stands)))

pub counted-applied-requires : goal.counted-applied-requires
counted-applied-requires g c =
    let l = c.loop-order in
    let counted : l.applied.done + l.applied.skipped ≡ l.order-index = stands_counted (held_of c.args.parts.now) (held_of l.parts) c.args.orders.now l.order-index l.last l.applied (omega arith) l.invariant.stands in
    omega (arith, counted)

pub overflow_add-result : goal.overflow_add-result
overflow_add-result g c =
    let l = c.loop-order in
    let counted : l.applied.done + l.applied.skipped ≡ l.order-index = stands_counted (held_of c.args.parts.now) (held_of l.parts) c.args.orders.now l.order-index l.last l.applied (omega arith) l.invariant.stands in
    omega (arith, counted)

pub returns-in-Err-clause-some : goal.returns-in-Err-clause-some
returns-in-Err-clause-some g c =
    let l = c.loop-order in
    let counted : l.applied.done + l.applied.skipped ≡ l.order-index = stands_counted (held_of c.args.parts.now) (held_of l.parts) c.args.orders.now l.order-index l.last l.applied (omega arith) l.invariant.stands in
    omega (arith, counted)

pub returns-in-Err-clause-err : goal.returns-in-Err-clause-err
returns-in-Err-clause-err g c =
    let l = c.loop-order in
    let counted : l.applied.done + l.applied.skipped ≡ l.order-index = stands_counted (held_of c.args.parts.now) (held_of l.parts) c.args.orders.now l.order-index l.last l.applied (omega arith) l.invariant.stands in
    stands_stopped (held_of c.args.parts.now) (held_of l.parts) (held_of c.carry_out.new.parts) c.args.orders.now l.order-index (l.applied.done + l.applied.skipped) l.last l.applied counted l.invariant.stands c.in-Err.ensures.err

pub loop-order-preserved : goal.loop-order-preserved
loop-order-preserved g c =
    let l = c.loop-order in
    record {
      kept = c.in-Ok.ensures.consistent;
      stands = stands_more (held_of c.args.parts.now) (held_of l.parts) (held_of c.carry_out.new.parts) c.args.orders.now l.order-index none l.last c.carry_out.new.last l.applied c.counted-applied.result c.in-Ok.done (omega arith)
          l.invariant.stands c.in-Ok.ensures.ok c.in-Ok.ensures.last c.counted-applied.ensures.done c.counted-applied.ensures.skipped;
      left = λ adds updates spawns room.
          left_more (held_of l.parts) (held_of c.carry_out.new.parts) c.args.orders.now l.order-index none l.last c.in-Ok.done (omega arith) c.in-Ok.ensures.ok c.carry_out.ensures.spends adds updates spawns (l.invariant.left adds updates spawns room);
    }

pub returns-clause-left : goal.returns-clause-left
returns-clause-left g c needs rest are room =
    let l = c.loop-order in
    let all : l.order-index ≡ length c.args.orders.now = omega arith in
    needs_left (held_of c.args.parts.now) (held_of l.parts) c.args.orders.now needs rest are room
    (λ adds updates spawns h. left_last (held_of l.parts) c.args.orders.now adds updates spawns (subst (λ i. HasRoomAlso adds updates spawns (drop i c.args.orders.now) (held_of l.parts)) all (l.invariant.left adds updates spawns h)))
