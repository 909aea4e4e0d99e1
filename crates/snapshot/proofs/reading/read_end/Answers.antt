use Rattle.std.proofs.Common.{sym, ap, subst, Err}
use Rattle.row_lang.specs.declared.fault.LineFault.{LineFault}
use Rattle.snapshot.specs.Snapshots.{IsSnapshot}
use Rattle.snapshot.proofs.LawfulLemmas.{snapshot_is_lawful}
use Rattle.snapshot.proofs.EndLemmas.{snapshot_ended, bytes_left, end_missing, nothing_left}
use Rattle.snapshot.proofs.StepLemmas.{refused_cause}
use Rattle.snapshot.proofs.reading.read_end.Goals as goal

pub returns-then-at-bytes-clause-cause : goal.returns-then-at-bytes-clause-cause
returns-then-at-bytes-clause-cause c = bytes_left c.args.bytes.now c.args.at c.args.draft c.requires.rest c.requires.all c.if-at-bytes.true

pub returns-in-Ok-clause-document : goal.returns-in-Ok-clause-document
returns-in-Ok-clause-document c =
    subst (IsSnapshot c.args.bytes.now) (sym c.finished.ensures)
    (snapshot_ended c.args.bytes.now c.args.at c.args.draft c.add_end.new.draft c.requires.rest (nothing_left c.args.bytes.now c.args.at c.if-at-bytes.false) c.in-Ok.ensures.ok)

pub returns-in-Ok-clause-lawful : goal.returns-in-Ok-clause-lawful
returns-in-Ok-clause-lawful c =
    snapshot_is_lawful c.args.bytes.now c.finished.result
    (subst (IsSnapshot c.args.bytes.now) (sym c.finished.ensures)
    (snapshot_ended c.args.bytes.now c.args.at c.args.draft c.add_end.new.draft c.requires.rest (nothing_left c.args.bytes.now c.args.at c.if-at-bytes.false) c.in-Ok.ensures.ok))

pub returns-in-Err-clause-cause : goal.returns-in-Err-clause-cause
returns-in-Err-clause-cause c =
    refused_cause c.args.bytes.now c.args.at c.in-Err.fault c.refused.result c.refused.ensures.bad c.refused.ensures.memory
    (λ is. end_missing c.args.bytes.now c.args.at c.args.draft c.requires.rest c.requires.all (c.in-Err.ensures.bad (ap (λ (why : LineFault). Err why) is)))
