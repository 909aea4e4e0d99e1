use Rattle.std.proofs.Common.{◌≤◌, ap, ◌∙◌, sym, subst, length}
use Rattle.std.specs.Int.{bit_at}
use Rattle.ready_board.specs.declared.view.View.{View}
use Rattle.ready_board.specs.Seats.{view_of}
use Rattle.tick_runner.specs.Versions.{IsRightAt}
use Rattle.tick_runner.specs.Working.{IsWorked}
use Rattle.tick_runner.proofs.WorkLemmas.{worked_both, or_within}
use Rattle.tick_runner.proofs.together.gather.gather.Goals as goal

pub returns-clause-ready : goal.returns-clause-ready
returns-clause-ready g c =
    let mine = c.requires.ready in
    let theirs = c.requires.other in
    let systems = c.args.systems.now in
    let right = IsRightAt g.S.System.effect c.args.fact.now in
    record {
      seat = c.join.ensures.seat;
      awake = ap (λ v. v.is_spent) c.join.ensures.view ∙ mine.awake;
      list = mine.list;
      room = mine.room;
      worked = subst (λ v. IsWorked right (length systems) v c.take_in.new.has_run.items c.take_in.new.buffers.items) (sym c.join.ensures.view)
          (worked_both right (length systems) (view_of c.args.first.now.seat) (view_of c.args.other.seat) c.args.first.now.has_run.items c.args.other.has_run.items c.take_in.new.has_run.items
          c.args.first.now.buffers.items c.args.other.buffers.items c.take_in.new.buffers.items mine.worked theirs.worked c.take_in.ensures.flags c.take_in.ensures.places c.take_in.ensures.taken c.take_in.ensures.unchanged);
    }

pub returns-clause-seen : goal.returns-clause-seen
returns-clause-seen g c = λ system.
    let old = view_of c.args.first.now.seat in
    subst (λ (v : View). bit_at old.seen_claimed system ≤ bit_at v.seen_claimed system) (sym c.join.ensures.view) (or_within old.seen_claimed (view_of c.args.other.seat).seen_claimed system)
