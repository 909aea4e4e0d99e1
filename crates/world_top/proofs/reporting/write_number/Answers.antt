use Rattle.std.proofs.Common.{◌≡◌, ◌∷◌, [], List, ℕ, subst, rules}
use Rattle.std.specs.Fmt.{decimal}
use Rattle.ecs_io.specs.Streams.{Grows, GrowsByFront}
use Rattle.world_top.proofs.FrontLemmas.{front_longer, front_after}
use Rattle.world_top.proofs.reporting.write_number.Goals as goal

pub returns-in_err-write_all-clause-front : goal.returns-in_err-write_all-clause-front
returns-in_err-write_all-clause-front g c =
    let holds = g.E.Sink.holds in
    let text : c.as_bytes.result.now ≡ decimal c.args.number = search rules in
    front_longer (holds c.args.faults.now) (holds c.write_all.new.sink) (decimal c.args.number) (10 ∷ []) (subst (λ (t : List ℕ). GrowsByFront (holds c.args.faults.now) (holds c.write_all.new.sink) t) text c.in_err-write_all.ensures.front)

pub returns-clause-front : goal.returns-clause-front
returns-clause-front g c =
    let holds = g.E.Sink.holds in
    let text : c.as_bytes.result.now ≡ decimal c.args.number = search rules in
    front_after (holds c.args.faults.now) (holds c.write_all.new.sink) (holds c.write_all-2.new.sink) (decimal c.args.number) (10 ∷ []) (subst (λ (t : List ℕ). Grows (holds c.args.faults.now) (holds c.write_all.new.sink) t) text c.in_ok-write_all.ensures.all) c.write_all-2.ensures.front
