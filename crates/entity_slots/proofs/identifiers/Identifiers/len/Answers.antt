use Rattle.std.proofs.Common.{◌≡◌, ap, arith}
use Rattle.entity_slots.specs.Threads.{Threaded}
use Rattle.entity_slots.proofs.ShownLemmas.{length_shown}
use Rattle.entity_slots.proofs.identifiers.Identifiers.len.Goals as goal

pub overflow_cast-result : goal.overflow_cast-result
overflow_cast-result c = omega (arith, c.self.invariant.ended, c.self.invariant.small, c.self.inside.list.ok.0)

pub returns-clause-len : goal.returns-clause-len
returns-clause-len c = omega (arith, length_shown c.self.inside c.args.self.now c.self.view_is, c.self.inside.list.ok.0)

pub returns-clause-few : goal.returns-clause-few
returns-clause-few c =
    let null : c.self.inside.null ≡ c.args.self.now.null = ap (λ (v : Threaded). v.null) c.self.view_is in
    omega (arith, length_shown c.self.inside c.args.self.now c.self.view_is, c.self.invariant.ended)

pub returns-clause-small : goal.returns-clause-small
returns-clause-small c =
    let null : c.self.inside.null ≡ c.args.self.now.null = ap (λ (v : Threaded). v.null) c.self.view_is in
    omega (arith, c.self.invariant.small)
