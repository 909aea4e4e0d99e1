use Rattle.std.proofs.Common.{length, length-append, ap, ◌∙◌, arith}
use Rattle.entity_slots.specs.Threads.{Threaded}
use Rattle.entity_slots.proofs.LoadLemmas.{next_live}
use Rattle.entity_slots.proofs.loading.all_live.Goals as goal

pub append-requires-clause-few : goal.append-requires-clause-few
append-requires-clause-few c = omega (arith, c.loop-slot.invariant.long, c.loop-slot.invariant.null, c.requires)

pub append-requires-clause-room : goal.append-requires-clause-room
append-requires-clause-room c = omega (arith, c.loop-slot.invariant.long, c.loop-slot.invariant.room)

pub loop-slot-preserved : goal.loop-slot-preserved
loop-slot-preserved c =
    let is = c.loop-slot.invariant in
    let made : Threaded = c.loop-slot.made in
    let new : Threaded = c.append.new.self in
    let long = simp length-append at (ap length c.append.ensures.now.slots) in
    record {
      slots = next_live c.args.slots.now made.slots new.slots c.loop-slot.slot-index _ c.loop-slot-test.true is.slots c.append.ensures.now.slots;
      long = omega (arith, long, is.long);
      free = c.append.ensures.now.free ∙ is.free;
      null = c.append.ensures.now.null ∙ is.null;
      room = omega (arith, c.append.ensures.now.room, is.room);
    }
