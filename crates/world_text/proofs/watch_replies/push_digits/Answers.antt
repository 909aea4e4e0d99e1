use Rattle.std.proofs.Common.{arith}
use Rattle.std.proofs.lemmas.Fmt.{length-decimal-le}
use Rattle.world_text.proofs.watch_replies.push_digits.Goals as goal

pub write_digits-at-requires : goal.write_digits-at-requires
write_digits-at-requires c =
    let digits = length-decimal-le 20 c.args.number (omega arith) (omega arith) (omega arith) in
    (omega arith, omega arith)
