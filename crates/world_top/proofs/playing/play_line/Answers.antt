use Rattle.world_top.proofs.playing.play_line.Goals as goal

pub returns-in-Watch : goal.returns-in-Watch
returns-in-Watch g c = rw c.in-Watch.is c.begin.ensures
