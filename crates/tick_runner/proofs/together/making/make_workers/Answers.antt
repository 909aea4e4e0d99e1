use Rattle.std.proofs.Common.{◌+◌, ◌-◌, ap, ◌∙◌, sym, zero-add}
use Rattle.ready_board.specs.Seats.{view_of}
use Rattle.tick_runner.proofs.together.making.make_workers.Goals as goal

pub returns : goal.returns
returns c = record {
  others = c.in_ok-all.all.items;
  first = c.in_ok-first.first;
  all = c.in_ok-push.ensures.items;
  others_are = c.in_ok-all.ensures.idle;
  others_later = c.in_ok-all.ensures.later;
  first_is = c.in_ok-first.ensures.idle;
  leads = ap (λ s. (view_of s).is_first) c.in_ok-first.ensures.seat ∙ c.in_ok-all.ensures.fresh.is_first;
  out = ap (λ s. (view_of s).out) c.in_ok-first.ensures.seat ∙ c.in_ok-all.ensures.out ∙ ap (λ n. n + (c.args.workers - 1)) c.requires.none ∙ zero-add _ ∙ sym c.in_ok-all.ensures.count;
}
