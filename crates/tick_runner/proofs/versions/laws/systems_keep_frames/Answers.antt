use Rattle.tick_runner.proofs.versions.laws.systems_keep_frames.Goals as goal

pub returns : goal.returns
returns g c = g.met.S.System.frame
