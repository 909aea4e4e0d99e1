use Rattle.std.proofs.Common.{arith}
use Rattle.world_text.proofs.PartLemmas.{refuses_version, same_number_line}
use Rattle.world_text.proofs.number_lines.read_version.Goals as goal

pub returns-then-version-draft-clause-bad : goal.returns-then-version-draft-clause-bad
returns-then-version-draft-clause-bad c = λ bad.
    let draft = c.args.draft.now in
    refuses_version draft c.args.text.now (λ more e.
    absurd (c.if-version-draft.true (same_number_line 18446744073709551615 c.in-Some.version draft.format.version c.args.text.now c.in-Some.after.now more (omega arith) c.in-Some.ensures.some (record { within = omega arith; whole = e }))))
