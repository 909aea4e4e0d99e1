use Rattle.std.proofs.Common.{◌+◌, Err, ap}
use Rattle.snapshot.proofs.StepLemmas.{refused_cause, tick_more, tick_missing, tick_bad}
use Rattle.snapshot.proofs.body.read_tick.Goals as goal

pub returns-in-Ok-clause-ok : goal.returns-in-Ok-clause-ok
returns-in-Ok-clause-ok c =
    tick_more c.args.bytes.now c.args.at (c.args.at + 8) c.args.draft.now c.add_tick.new.draft c.in-Some.tick c.requires c.in-Some.ensures.some c.in-Ok.ensures.ok

pub returns-in_default-clause-cause : goal.returns-in_default-clause-cause
returns-in_default-clause-cause c = tick_missing c.args.bytes.now c.args.at c.args.draft.now c.requires c.in_default.ensures.none

pub returns-in-Err-clause-cause : goal.returns-in-Err-clause-cause
returns-in-Err-clause-cause c =
    refused_cause c.args.bytes.now c.args.at c.in-Err.fault c.refused.result c.refused.ensures.bad c.refused.ensures.memory
    (λ e. tick_bad c.args.bytes.now c.args.at (c.args.at + 8) c.args.draft.now c.in-Some.tick c.requires c.in-Some.ensures.some (c.in-Err.ensures.bad (ap Err e)))
