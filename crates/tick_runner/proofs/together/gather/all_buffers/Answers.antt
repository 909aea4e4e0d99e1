use Rattle.std.proofs.Common.{ap, ◌∙◌, length, ◌-◌, Some}
use Rattle.std.proofs.lemmas.List.Elements.{All-pop}
use Rattle.ready_board.specs.Seats.{view_of}
use Rattle.tick_runner.specs.declared.worker.Worker.{Worker}
use Rattle.tick_runner.specs.Versions.{IsRightAt}
use Rattle.tick_runner.specs.Working.{IsAtWork, IsLater}
use Rattle.tick_runner.proofs.WorkLemmas.{all_right, less_one, within_both}
use Rattle.tick_runner.proofs.together.gather.all_buffers.Goals as goal

pub gather-requires-clause-other : goal.gather-requires-clause-other
gather-requires-clause-other g c =
    let P : Worker → _ = IsAtWork (IsRightAt g.S.System.effect c.args.fact.now) (length c.args.systems.now) c.args.board in
    (All-pop P _ _ (Some c.in-Some.other) c.in-Some.ensures.items c.loop-other.invariant.others).1

pub gather-requires-clause-later : goal.gather-requires-clause-later
gather-requires-clause-later g c = (All-pop IsLater _ _ (Some c.in-Some.other) c.in-Some.ensures.items c.loop-other.invariant.later).1

pub loop-other-preserved : goal.loop-other-preserved
loop-other-preserved g c =
    let P : Worker → _ = IsAtWork (IsRightAt g.S.System.effect c.args.fact.now) (length c.args.systems.now) c.args.board in
    record {
      ready = c.gather.ensures.ready;
      leads = c.gather.ensures.leads;
      all = within_both _ _ _ c.loop-other.invariant.all c.gather.ensures.seen;
      others = (All-pop P _ _ (Some c.in-Some.other) c.in-Some.ensures.items c.loop-other.invariant.others).0;
      later = (All-pop IsLater _ _ (Some c.in-Some.other) c.in-Some.ensures.items c.loop-other.invariant.later).0;
      out = c.gather.ensures.out ∙ ap (λ n. n - 1) c.loop-other.invariant.out ∙ less_one c.loop-other.others.items c.pop.new.self.items c.in-Some.other c.in-Some.ensures.items;
    }

pub returns-clause-orders : goal.returns-clause-orders
returns-clause-orders g c =
    all_right (IsRightAt g.S.System.effect c.args.fact.now) (length c.args.systems.now) (view_of c.loop-other.first.seat) c.loop-other.first.has_run.items c.loop-other.first.buffers.items
    c.loop-other.invariant.ready.worked c.loop-other.invariant.all c.close.ensures.mine
