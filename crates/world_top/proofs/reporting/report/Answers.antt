use Rattle.std.proofs.Common.{List, ℕ, [], ◌∷◌, ◌++◌, sym, ap, subst, ◌∙◌}
use Rattle.std.specs.Fmt.{decimal}
use Rattle.ecs_io.specs.Streams.{Grows, GrowsByFront}
use Rattle.world_top.specs.Endings.{fault_words, fault_number}
use Rattle.world_top.proofs.FrontLemmas.{front_longer, front_after}
use Rattle.world_top.proofs.reporting.report.Goals as goal

pub returns-in_err-write_all-clause-front : goal.returns-in_err-write_all-clause-front
returns-in_err-write_all-clause-front g c =
    let holds = g.E.Sink.holds in
    front_longer (holds c.args.faults.now) (holds c.write_all.new.sink) (fault_words c.args.outcome) (fault_number c.args.outcome) (subst (λ (t : List ℕ). GrowsByFront (holds c.args.faults.now) (holds c.write_all.new.sink) t) c.words_of.ensures c.in_err-write_all.ensures.front)

pub returns-in-BadInput-clause-front : goal.returns-in-BadInput-clause-front
returns-in-BadInput-clause-front g c =
    let holds = g.E.Sink.holds in
    front_after (holds c.args.faults.now) (holds c.write_all.new.sink) (holds c.write_number.new.faults) (fault_words c.args.outcome) (fault_number c.args.outcome) (subst (λ (t : List ℕ). Grows (holds c.args.faults.now) (holds c.write_all.new.sink) t) c.words_of.ensures c.in_ok-write_all.ensures.all) (subst (λ (t : List ℕ). GrowsByFront (holds c.write_all.new.sink) (holds c.write_number.new.faults) t) (ap (λ (n : ℕ). decimal n ++ 10 ∷ []) c.number.ensures ∙ sym (ap fault_number c.in-BadInput.is)) c.write_number.ensures.front)
