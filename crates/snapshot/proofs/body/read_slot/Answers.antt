use Rattle.std.proofs.Common.{◌+◌, Err, ap}
use Rattle.snapshot.proofs.StepLemmas.{refused_cause, slot_more, slot_missing, slot_bad}
use Rattle.snapshot.proofs.body.read_slot.Goals as goal

pub returns-in-Ok-clause-ok : goal.returns-in-Ok-clause-ok
returns-in-Ok-clause-ok c = λ left free h.
    slot_more c.args.bytes.now c.args.at (c.args.at + 5) left free c.args.draft.now c.add_slot.new.draft c.in-Some.slot h c.in-Some.ensures.some c.in-Ok.ensures.ok

pub returns-in_default-clause-cause : goal.returns-in_default-clause-cause
returns-in_default-clause-cause c = λ left free h. slot_missing c.args.bytes.now c.args.at left free c.args.draft.now h c.in_default.ensures.none

pub returns-in-Err-clause-cause : goal.returns-in-Err-clause-cause
returns-in-Err-clause-cause c = λ left free h.
    refused_cause c.args.bytes.now c.args.at c.in-Err.fault c.refused.result c.refused.ensures.bad c.refused.ensures.memory
    (λ e. slot_bad c.args.bytes.now c.args.at (c.args.at + 5) left free c.args.draft.now c.in-Some.slot h c.in-Some.ensures.some (c.in-Err.ensures.bad (ap Err e)))
