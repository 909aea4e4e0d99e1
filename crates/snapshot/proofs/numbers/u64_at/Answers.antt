use Rattle.std.proofs.Common.{◌≡◌, ℕ, drop, sym, ap, subst, ◌∙◌, arith}
use Rattle.byteorder.specs.Endian.{little_number}
use Rattle.snapshot.specs.Fields.{u64_bytes}
use Rattle.snapshot.specs.Reading.{IsNumberAt}
use Rattle.snapshot.proofs.PlaceLemmas.{number_at}
use Rattle.snapshot.proofs.numbers.u64_at.Goals as goal

pub returns-clause-some : goal.returns-clause-some
returns-clause-some c =
    let e : c.read_u64.result ≡ little_number 8 (drop c.args.at c.args.bytes.now) = c.read_u64.ensures ∙ ap (little_number 8) c.in_ok-rest.ensures.some.0 in
    subst (λ (n : ℕ). IsNumberAt 8 c.args.bytes.now c.args.at n (u64_bytes n)) (sym e) (number_at 8 c.args.at c.args.bytes.now c.in_ok-rest.ensures.some.1 (λ k. omega (arith, c.type_inv.bytes k)))
