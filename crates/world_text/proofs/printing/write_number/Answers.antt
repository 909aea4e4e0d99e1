use Rattle.std.proofs.Common.{arith, append_assoc}
use Rattle.std.proofs.lemmas.Fmt.{length-decimal-le}
use Rattle.std.proofs.lemmas.List.{drop-set, drop_all}
use Rattle.std.proofs.Math.ListN.{length-set}
use Rattle.world_text.proofs.printing.write_number.Goals as goal

pub write_digits-at-requires : goal.write_digits-at-requires
write_digits-at-requires c =
    let digits = length-decimal-le 20 c.args.number (omega arith) (omega arith) (omega arith) in
    let kept = length-set c.args.line.now 127 10 in
    (omega arith, omega arith)

pub write_word-requires : goal.write_word-requires
write_word-requires c =
    let digits = length-decimal-le 20 c.args.number (omega arith) (omega arith) (omega arith) in
    let kept = length-set c.args.line.now 127 10 in
    (omega arith, omega arith)

pub returns-clause-written : goal.returns-clause-written
returns-clause-written c =
    rw (c.write_word.ensures.written, c.write_digits-at.ensures.written, drop-set c.args.line.now 127 10 (omega arith), drop_all 128 c.args.line.now (omega arith), append_assoc)

pub returns-clause-within : goal.returns-clause-within
returns-clause-within c =
    let digits = length-decimal-le 20 c.args.number (omega arith) (omega arith) (omega arith) in
    let kept = length-set c.args.line.now 127 10 in
    (omega arith, omega arith)
