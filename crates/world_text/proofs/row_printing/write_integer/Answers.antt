use Rattle.std.proofs.Common.{◌≡◌, ◌+◌, ◌-◌, ◌∷◌, false, ℤ, pos, negsuc, int_le, unsigned_abs, arith, refl, sym, ◌∙◌, true≢false, to_z-of_z}
use Rattle.std.specs.Fmt.{decimal, signed_decimal}
use lib.Dec.{leb-zero}
use Rattle.std.proofs.lemmas.Fmt.{length-decimal-le}
use Rattle.std.proofs.lemmas.List.{drop-set}
use Rattle.world_text.proofs.row_printing.write_integer.Goals as goal

minus_first : (z : ℤ) → int_le (pos 0) z ≡ false → 45 ∷ decimal (unsigned_abs z) ≡ signed_decimal z
minus_first (pos n) e = absurd (true≢false (sym (leb-zero n) ∙ e))
minus_first (negsuc n) e = refl

pub write_digits-digits-requires : goal.write_digits-digits-requires
write_digits-digits-requires c = let long = length-decimal-le 19 c.unsigned_abs.result (omega arith) (omega arith) (omega arith) in (omega arith, omega arith)

pub returns-then-number-ge0-clause-within : goal.returns-then-number-ge0-clause-within
returns-then-number-ge0-clause-within c = let long = length-decimal-le 19 c.unsigned_abs.result (omega arith) (omega arith) (omega arith) in (omega arith, omega arith)

pub overflow_sub-buf : goal.overflow_sub-buf
overflow_sub-buf c = omega (arith, length-decimal-le 19 c.unsigned_abs.result (omega arith) (omega arith) (omega arith))

pub overflow_sub-result : goal.overflow_sub-result
overflow_sub-result c = omega (arith, length-decimal-le 19 c.unsigned_abs.result (omega arith) (omega arith) (omega arith))

pub returns-clause-within : goal.returns-clause-within
returns-clause-within c = let long = length-decimal-le 19 c.unsigned_abs.result (omega arith) (omega arith) (omega arith) in (omega arith, omega arith)

pub returns-clause-written : goal.returns-clause-written
returns-clause-written c =
    let w = c.write_digits-digits in
    let long = length-decimal-le 19 c.unsigned_abs.result (omega arith) (omega arith) (omega arith) in
    let next : w.result - 1 + 1 ≡ w.result = omega arith in
    let back = to_z-of_z c.ranges.number in
    rw (drop-set w.new.buf (w.result - 1) 45 (omega arith), next, w.ensures.written, c.unsigned_abs.ensures.value, back, ← minus_first c.args.number (rw back at c.if-number-ge0.false))
