use Rattle.std.proofs.Common.{◌≡◌, ◌+◌, ◌-◌, arith, append_assoc}
use Rattle.std.proofs.lemmas.Fmt.{length-decimal-le}
use Rattle.std.proofs.lemmas.List.{drop-set}
use Rattle.std.proofs.Math.ListN.{length-set}
use Rattle.entity_id.proofs.text.write_parts.Goals as goal

pub write_digits-colon-requires : goal.write_digits-colon-requires
write_digits-colon-requires c = let version = length-decimal-le 10 c.from.result (omega arith) (omega arith) (omega arith) in (omega arith, omega arith)

pub overflow_sub-colon : goal.overflow_sub-colon
overflow_sub-colon c = let version = length-decimal-le 10 c.from.result (omega arith) (omega arith) (omega arith) in omega arith

pub write_digits-requires : goal.write_digits-requires
write_digits-requires c =
    let version = length-decimal-le 10 c.from.result (omega arith) (omega arith) (omega arith) in
    let index = length-decimal-le 10 c.from-2.result (omega arith) (omega arith) (omega arith) in
    let kept = length-set c.write_digits-colon.new.buf (c.write_digits-colon.result - 1) 58 in
    (omega arith, omega arith)

pub returns-clause-within : goal.returns-clause-within
returns-clause-within c =
    let version = length-decimal-le 10 c.from.result (omega arith) (omega arith) (omega arith) in
    let index = length-decimal-le 10 c.from-2.result (omega arith) (omega arith) (omega arith) in
    (omega arith, omega arith)

pub returns-clause-written : goal.returns-clause-written
returns-clause-written c =
    let version = length-decimal-le 10 c.from.result (omega arith) (omega arith) (omega arith) in
    let colon = c.write_digits-colon.result - 1 in
    let next : colon + 1 ≡ c.write_digits-colon.result = omega arith in
    rw (c.write_digits.ensures.written, drop-set c.write_digits-colon.new.buf colon 58 (omega arith), next, c.write_digits-colon.ensures.written, c.from.ensures, c.from-2.ensures, append_assoc)
