use Rattle.std.proofs.Common.{length, refl, arith}
use Rattle.std.proofs.lemmas.Option.{slice_get_past, slice_get_read}
use Rattle.snapshot.specs.Fields.{u32_bytes}
use Rattle.snapshot.proofs.PlaceLemmas.{too_short, no_entity_here}
use Rattle.snapshot.proofs.pools.entity_at.Goals as goal

pub returns-in_err-index-clause-none : goal.returns-in_err-index-clause-none
returns-in_err-index-clause-none c =
    rw c.from_residual.ensures (λ entity more live small e. too_short 4 c.args.at c.args.bytes.now (u32_bytes entity.index) more c.in_err-index.ensures.none (omega arith) (omega arith) e)

pub returns-in_err-slot-clause-none : goal.returns-in_err-slot-clause-none
returns-in_err-slot-clause-none c =
    let past = c.in_err-slot.ensures.lookup.3 in
    rw c.from_residual-in_err-slot.ensures (no_entity_here c.args.slots.now c.args.bytes.now c.args.at c.in_ok-index.index c.in_ok-index.ensures.some (omega arith) (slice_get_past c.args.slots.now c.in_ok-index.index past))

pub returns-clause-some : goal.returns-clause-some
returns-clause-some c =
    let lookup = c.in_ok-slot.ensures.lookup in
    record {
      within = c.in_ok-index.ensures.some.within;
      spelled = c.in_ok-index.ensures.some.spelled;
      slot = c.in_ok-slot.slot.now;
      found = slice_get_read c.args.slots.now (length c.args.slots.now) c.in_ok-index.index c.in_ok-slot.slot.now refl lookup.3.0 lookup.1;
      version = refl;
    }
