use Rattle.std.proofs.Common.{length}
use Rattle.tick_runner.specs.Versions.{IsRightAt}
use Rattle.tick_runner.specs.Working.{IsIdle}
use Rattle.tick_runner.proofs.SideLemmas.{all_at_work, have_worked}
use Rattle.tick_runner.proofs.together.whole.work_led.Goals as goal

pub work_listed-requires-clause-ready : goal.work_listed-requires-clause-ready
work_listed-requires-clause-ready g c =
    λ _ _. all_at_work (IsRightAt g.S.System.effect c.args.fact.now) (length c.args.systems.now) c.args.plan.now.board c.args.workers.now.items c.requires.idle

pub returns : goal.returns
returns g c =
    let count = length c.args.systems.now in
    let board = c.args.plan.now.board in
    have_worked (IsRightAt g.S.System.effect c.args.fact.now) count board (IsIdle count board) c.args.workers.now.items c.work_listed.new.workers.items
    c.requires.idle c.work_listed.ensures.count c.work_listed.ensures.worked
