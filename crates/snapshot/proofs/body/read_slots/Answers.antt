use Rattle.std.proofs.Common.{◌≡◌, ℕ, suc, ◌+◌, ◌-◌, cond, subst, arith}
use Rattle.std.proofs.lemmas.Result.{err_from_is_err_and}
use Rattle.snapshot.specs.Due as due
use Rattle.snapshot.specs.Reading.{SlotsDue}
use Rattle.snapshot.proofs.RoomLemmas.{reach_as}
use Rattle.snapshot.proofs.StepLemmas.{slot_count_more, slot_count_missing}
use Rattle.snapshot.proofs.body.read_slots.Goals as goal
use Rattle.snapshot.proofs.body.read_slots.Goals.{then-not-live, else-not-live}

pub loop-init : goal.loop-init
loop-init c =
    let all : c.in-Some.count ≡ c.in-Some.count - 0 = omega arith in
    let counted = slot_count_more c.args.bytes.now c.args.at (c.args.at + 4) c.args.draft.now c.in-Some.count c.requires c.in-Some.ensures.some in
    record {
      due = subst (λ (n : ℕ). SlotsDue c.args.bytes.now (c.args.at + 4) c.reserve_slots.new.draft n 0) all
          (reach_as c.args.bytes.now (c.args.at + 4) (due.Slots c.in-Some.count 0) c.args.draft.now c.reserve_slots.new.draft c.in_ok-reserve_slots.ensures counted);
      few = omega arith;
    }

pub returns-in_default-clause-cause : goal.returns-in_default-clause-cause
returns-in_default-clause-cause c = slot_count_missing c.args.bytes.now c.args.at c.args.draft.now c.requires c.in_default.ensures.none

pub returns-in_err-live-clause-cause : goal.returns-in_err-live-clause-cause
returns-in_err-live-clause-cause c =
    let p = err_from_is_err_and c.from_residual-in_err-live.result c.from_residual-in_err-live.ensures.1 in
    let one_more : c.in-Some.count - c.loop.counter ≡ suc (c.in-Some.count - (c.loop.counter + 1)) = omega arith in
    rw (p.1, p.2) (c.in_err-live.ensures.cause (c.in-Some.count - (c.loop.counter + 1)) c.loop.free (subst (λ (n : ℕ). SlotsDue c.args.bytes.now c.loop.to c.loop.draft n c.loop.free) one_more c.loop.invariant.due))

pub loop-preserved : goal.loop-preserved
loop-preserved c =
    let left = c.in-Some.count - (c.loop.counter + 1) in
    let one_more : c.in-Some.count - c.loop.counter ≡ suc (c.in-Some.count - (c.loop.counter + 1)) = omega arith in
    let before = subst (λ (n : ℕ). SlotsDue c.args.bytes.now c.loop.to c.loop.draft n c.loop.free) one_more c.loop.invariant.due in
    let counted : cond c.in_ok-live.live c.loop.free (suc c.loop.free) ≡ c.if-not-live.free = elim c.if-not-live.branch [ then-not-live w ↦ grind arith | else-not-live w ↦ grind arith ] in
    record {
      due = subst (λ (n : ℕ). SlotsDue c.args.bytes.now (c.loop.to + 5) c.read_slot.new.draft left n) counted (c.in_ok-live.ensures.ok left c.loop.free before);
      few = elim c.if-not-live.branch [ then-not-live w ↦ omega (arith, c.loop.invariant.few) | else-not-live w ↦ omega (arith, c.loop.invariant.few) ];
    }
