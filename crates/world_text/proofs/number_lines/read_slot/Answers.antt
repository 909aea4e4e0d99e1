use Rattle.std.proofs.Common.{arith}
use Rattle.world_text.proofs.PartLemmas.{refuses_slot, same_number_line}
use Rattle.world_text.proofs.number_lines.read_slot.Goals as goal

pub returns-then-version-draft-clause-bad : goal.returns-then-version-draft-clause-bad
returns-then-version-draft-clause-bad c = λ bad.
    refuses_slot c.args.draft.now c.args.live c.args.text.now (λ version more below e.
    let same = same_number_line c.from.result c.in-Some.version version c.args.text.now c.in-Some.after.now more (omega arith) c.in-Some.ensures.some (record { within = omega (arith, c.from.ensures); whole = e }) in
    absurd (omega (arith, same, c.if-version-draft.true)))
