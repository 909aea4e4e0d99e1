use Rattle.std.proofs.Common.{ap, ◌∙◌, sym, subst, rules}
use Rattle.std.specs.List.{All}
use Rattle.std.proofs.lemmas.List.Elements.{All-push}
use Rattle.ready_board.specs.Seats.{view_of}
use Rattle.tick_runner.specs.declared.worker.Worker.{Worker}
use Rattle.tick_runner.specs.Working.{IsIdle, IsLater}
use Rattle.tick_runner.proofs.together.making.other_workers.Goals as goal

pub loop-k-preserved : goal.loop-k-preserved
loop-k-preserved c =
    let P : Worker → _ = IsIdle c.args.systems c.args.board.now in
    let view = c.split-other.ensures.view in
    let fresh = c.loop-k.invariant.fresh in
    record {
      fresh = record {
        seat_of = c.split-other.ensures.seat;
        awake = ap (λ v. v.is_spent) view ∙ fresh.awake;
        is_first = ap (λ v. v.is_first) view ∙ fresh.is_first;
        mine = ap (λ v. v.mine) view ∙ fresh.mine;
        finished = ap (λ v. v.finished) view ∙ fresh.finished;
      };
      out = search rules;
      count = search rules;
      idle = subst (λ xs. All P xs) (sym c.in_ok-push.ensures.items) (All-push P c.loop-k.others.items c.in_ok-idle_worker.field-0 c.loop-k.invariant.idle c.in_ok-idle_worker.ensures.idle);
      later = subst (λ xs. All IsLater xs) (sym c.in_ok-push.ensures.items) (All-push IsLater c.loop-k.others.items c.in_ok-idle_worker.field-0 c.loop-k.invariant.later
          (ap (λ s. (view_of s).is_first) c.in_ok-idle_worker.ensures.seat ∙ ap (λ v. v.is_first) c.split-other.ensures.new_view));
    }
