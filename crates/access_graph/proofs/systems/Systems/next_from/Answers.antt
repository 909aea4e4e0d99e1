use Rattle.std.proofs.Common.{◌+◌, ◌<◌, ◌≤◌, ◌^◌, ◌/◌, subst, arith}
use Rattle.std.proofs.Math.Nat.{div-le_self}
use Rattle.access_graph.specs.Systems.{SystemSet, IsNext}
use Rattle.std.specs.Prelude.{Some, None}
use Rattle.access_graph.proofs.SystemLemmas.{none_past, none_from, next_has, next_least, zeros}
use Rattle.access_graph.proofs.systems.Systems.next_from.Goals as goal

pub returns-then-from-ge-SYSTEM_LIMIT : goal.returns-then-from-ge-SYSTEM_LIMIT
returns-then-from-ge-SYSTEM_LIMIT c =
    subst (λ (s : SystemSet). IsNext s c.args.from None) c.self.view_is (none_past c.self.inside.bits c.args.from (omega arith))

pub returns-then-rest-eq0 : goal.returns-then-rest-eq0
returns-then-rest-eq0 c =
    subst (λ (s : SystemSet). IsNext s c.args.from None) c.self.view_is (none_from c.self.inside.bits c.args.from (omega arith) (omega arith))

pub returns : goal.returns
returns c =
    let bits = c.self.inside.bits in
    let from = c.args.from in
    let some : 0 < bits / 2 ^ from = omega arith in
    let low : bits / 2 ^ from ≤ bits = div-le_self bits (2 ^ from) in
    let small : bits / 2 ^ from < 2 ^ 64 = omega arith in
    let fits : bits < 2 ^ 64 = omega arith in
    subst (λ (s : SystemSet). IsNext s from (Some (from + zeros bits from fits some small))) c.self.view_is
    (omega arith, next_has bits from fits some small, next_least bits from fits some small)
