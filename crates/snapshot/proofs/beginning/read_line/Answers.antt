use Rattle.std.proofs.Common.{◌+◌, length, Err, ap, refl}
use Rattle.snapshot.proofs.StepLemmas.{refused_cause, header_more, header_missing, header_bad}
use Rattle.snapshot.proofs.beginning.read_line.Goals as goal

pub returns-in-Ok-clause-ok : goal.returns-in-Ok-clause-ok
returns-in-Ok-clause-ok c = λ left h.
    header_more c.args.bytes.now c.args.at (c.args.at + 2 + length c.in-Some.line.now) left c.args.header.now c.add.new.self c.in-Some.line.now h c.in-Some.ensures.some refl c.in-Ok.ensures.ok

pub returns-in_default-clause-cause : goal.returns-in_default-clause-cause
returns-in_default-clause-cause c = λ left h. header_missing c.args.bytes.now c.args.at left c.args.header.now h c.in_default.ensures.none

pub returns-in-Err-clause-cause : goal.returns-in-Err-clause-cause
returns-in-Err-clause-cause c = λ left h.
    refused_cause c.args.bytes.now c.args.at c.in-Err.fault c.refused.result c.refused.ensures.bad c.refused.ensures.memory
    (λ e. header_bad c.args.bytes.now c.args.at left c.args.header.now c.in-Some.line.now h c.in-Some.ensures.some (c.in-Err.ensures.bad (ap Err e)))
