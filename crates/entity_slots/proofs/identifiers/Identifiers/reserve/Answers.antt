use Rattle.std.proofs.Common.{◌≡◌, ap, arith}
use Rattle.std.specs.Vec.{vec_capacity}
use Rattle.entity_slots.specs.Threads.{Threaded}
use Rattle.entity_slots.proofs.ShownLemmas.{length_shown}
use Rattle.entity_slots.proofs.identifiers.Identifiers.reserve.Goals as goal

pub returns-in_err-reserve-clause-ready : goal.returns-in_err-reserve-clause-ready
returns-in_err-reserve-clause-ready c = λ fits.
    let value : Threaded = c.args.self.now in
    let room : vec_capacity c.self.inside.list ≡ value.room = ap (λ (v : Threaded). v.room) c.self.view_is in
    absurd (omega (arith, length_shown c.self.inside value c.self.view_is, c.in_err-reserve.ensures.full, c.self.inside.list.ok.0))

pub returns-clause-ok : goal.returns-clause-ok
returns-clause-ok c =
    omega (arith, length_shown c.self.inside c.args.self.now c.self.view_is, c.in_ok-reserve.ensures.ok, c.in_ok-reserve.ensures.len, c.self.inside.list.ok.0)
