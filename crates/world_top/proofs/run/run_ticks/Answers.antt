use Rattle.world_top.specs.Running.{effects_of}
use Rattle.world_top.proofs.RunningLemmas.{still_fit, one_more}
use Rattle.world_top.proofs.run.run_ticks.Goals as goal

pub run_tick-requires-clause-fit : goal.run_tick-requires-clause-fit
run_tick-requires-clause-fit c =
    still_fit c.args.registry c.loop-past.now c.loop-past.now (effects_of c.args.systems.now) c.args.tick c.loop-past.past c.loop-past.invariant c.args.systems.now c.requires.fit

pub loop-past-preserved : goal.loop-past-preserved
loop-past-preserved c =
    one_more c.args.registry c.loop-past.now c.in_ok-now.now (effects_of c.args.systems.now) c.args.tick c.loop-past.past c.loop-past.invariant c.in_ok-now.ensures
